use Rattle.std.proofs.Common.{◌≡◌, true}
use Rattle.tw_model.specs.Net.{is_own}
use Rattle.tw_sim.proofs.Members.{all_from_in}
use Rattle.tw_policy.specs.Standing.{standing}
use Rattle.tw_policy.proofs.Cases as cases
use Rattle.tw_policy.proofs.laws.ranks_stand_once.Goals as goal

pub returns-clause-own : goal.returns-clause-own
returns-clause-own c = λ case is v. all_from_in (λ q. is_own case.net v q ≡ true) (standing case v).order (cases.standing_own case is v)

pub returns-clause-once : goal.returns-clause-once
returns-clause-once c = λ case is v. cases.standing_once case is v

pub returns-clause-all : goal.returns-clause-all
returns-clause-all c = λ case is v. cases.all_once case is v
