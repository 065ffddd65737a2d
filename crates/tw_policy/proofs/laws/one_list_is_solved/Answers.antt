use Rattle.tw_policy.proofs.OneList as list
use Rattle.tw_policy.proofs.laws.one_list_is_solved.Goals as goal

pub returns : goal.returns
returns c = λ net states place is n all. list.solved net states place is n all
