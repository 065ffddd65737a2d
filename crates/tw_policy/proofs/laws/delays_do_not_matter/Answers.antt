use Rattle.tw_policy.proofs.Alike.{alike_back, left_alike, may_same, solved_alike, stable_alike}
use Rattle.tw_policy.proofs.laws.delays_do_not_matter.Goals as goal

pub returns-clause-solved : goal.returns-clause-solved
returns-clause-solved c = λ case other is other_is alike n solved. solved_alike case other is other_is alike n solved

pub returns-clause-may_use : goal.returns-clause-may_use
returns-clause-may_use c = λ case other is other_is alike n v q may. may_same other case other_is is (alike_back case other alike) n v q may

pub returns-clause-left : goal.returns-clause-left
returns-clause-left c = λ case other is other_is alike n v. left_alike case other is other_is alike n v

pub returns-clause-stable : goal.returns-clause-stable
returns-clause-stable c = λ case other is other_is alike ribs stable. stable_alike case other is other_is alike ribs stable
