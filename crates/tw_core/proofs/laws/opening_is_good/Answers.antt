use Rattle.tw_core.proofs.Steps.{good_opening}
use Rattle.tw_core.proofs.laws.opening_is_good.Goals as goal

pub returns : goal.returns
returns c = λ start m law C opens. good_opening m law C opens
