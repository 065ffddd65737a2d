use Rattle.tw_policy.proofs.DisputeWheel as wheel
use Rattle.tw_policy.proofs.laws.one_list_has_no_wheel.Goals as goal

pub returns : goal.returns
returns c = λ net states place is one others wheel_is. wheel.no_wheel net states place is one others wheel_is
