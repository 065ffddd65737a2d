use Rattle.tw_policy.proofs.Elimination as elimination
use Rattle.tw_policy.proofs.laws.solved_is_unique.Goals as goal

pub returns-clause-unique : goal.returns-clause-unique
returns-clause-unique c = λ net states n solved one two first second v here. elimination.unique net states n solved one two first second v here

pub returns-clause-exists : goal.returns-clause-exists
returns-clause-exists c = λ net states n solved. (elimination.round net states n, elimination.exists net states n solved)
