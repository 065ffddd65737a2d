use Rattle.tw_core.proofs.Steps.{good_further}
use Rattle.tw_core.proofs.laws.stop_may_rise.Goals as goal

pub returns : goal.returns
returns c = λ start m law C stop le good. good_further m law C stop le good
