use Rattle.tw_policy.proofs.Halts as halts
use Rattle.tw_policy.proofs.laws.no_wheel_leaves_one.Goals as goal

pub returns : goal.returns
returns c = λ net states no_wheel. halts.no_wheel_one_left net states no_wheel
