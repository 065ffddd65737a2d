use Rattle.tw_policy.specs.Left.{left_after}
use Rattle.tw_policy.specs.Standing.{standing}
use Rattle.tw_policy.proofs.Exact.{case_left_may, solved_one_left}
use Rattle.tw_policy.proofs.Halts.{in_one, one_in}
use Rattle.tw_policy.proofs.Left.{may_left}
use Rattle.tw_policy.proofs.laws.lists_are_exact.Goals as goal

pub returns-clause-left : goal.returns-clause-left
returns-clause-left c = λ case is n v q h.
    case_left_may case is n v q (one_in case.net (standing case) (left_after case.net (standing case) n v) q h)

pub returns-clause-may_use : goal.returns-clause-may_use
returns-clause-may_use c = λ net states n v q may. in_one net states (left_after net states n v) q (may_left net states n v q may)

pub returns-clause-one : goal.returns-clause-one
returns-clause-one c = λ case is n solved v here. solved_one_left case is n solved v here
