use Rattle.std.proofs.Common.{◌≡◌, true}
use Rattle.tw_model.specs.Net.{is_own}
use Rattle.tw_sim.proofs.Members.{in_from_all}
use Rattle.tw_policy.proofs.Topological.{one_list}
use Rattle.tw_policy.proofs.laws.no_wheel_has_one_list.Goals as goal

pub returns : goal.returns
returns c = λ net states own once no_wheel.
    one_list net states (λ v q i. in_from_all (λ p. is_own net v p ≡ true) (states v).order (own v) q i) once no_wheel
