use Rattle.tw_policy.proofs.Left as left
use Rattle.tw_policy.proofs.laws.one_left_is_solved.Goals as goal

pub returns : goal.returns
returns c = λ net states n one. left.left_solved net states n one
