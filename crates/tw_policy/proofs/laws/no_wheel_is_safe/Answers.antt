use Rattle.tw_policy.proofs.Safe.{no_wheel_safe}
use Rattle.tw_policy.proofs.laws.no_wheel_is_safe.Goals as goal

pub returns : goal.returns
returns c = λ case is no_wheel. no_wheel_safe case is no_wheel
