use Rattle.tw_policy.proofs.Halts as halts
use Rattle.tw_policy.proofs.laws.order_does_not_matter.Goals as goal

pub returns-clause-kept : goal.returns-clause-kept
returns-clause-kept c = λ net states halted left halt among v q h. halts.kept net states halted left halt among v q h

pub returns-clause-within : goal.returns-clause-within
returns-clause-within c = λ net states halted halt n v q h. halts.within_rounds net states halted halt n v q h

pub returns-clause-same : goal.returns-clause-same
returns-clause-same c = λ net states one two first second there back v. halts.same_halt net states one two first second there back v
