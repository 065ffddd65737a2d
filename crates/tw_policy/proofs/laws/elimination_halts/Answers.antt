use Rattle.tw_policy.proofs.Halts as halts
use Rattle.tw_policy.proofs.laws.elimination_halts.Goals as goal

pub returns-clause-fewer : goal.returns-clause-fewer
returns-clause-fewer c = λ net states n. halts.fewer net states n

pub returns-clause-over : goal.returns-clause-over
returns-clause-over c = λ net states n last k v here. halts.over net states n last k v here

pub returns-clause-soon : goal.returns-clause-soon
returns-clause-soon c = λ net states. halts.halts net states
