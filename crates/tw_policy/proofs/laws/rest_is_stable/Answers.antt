use Rattle.tw_policy.proofs.Never as never
use Rattle.tw_policy.proofs.Scripts.{scripted_before}
use Rattle.tw_policy.proofs.laws.rest_is_stable.Goals as goal

pub returns : goal.returns
returns c = λ case is start before t ready quiet. never.at_rest case is start (scripted_before case start before) t ready quiet
