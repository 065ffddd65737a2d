use Rattle.tw_policy.proofs.Standing.{handled_in_order, handled_ordered}
use Rattle.tw_policy.proofs.laws.standing_is_handled_in_order.Goals as goal

pub returns-clause-ordered : goal.returns-clause-ordered
returns-clause-ordered c = λ case is v. handled_ordered case is v

pub returns-clause-rising : goal.returns-clause-rising
returns-clause-rising c = λ case is v events up counts. handled_in_order case is v events up counts
