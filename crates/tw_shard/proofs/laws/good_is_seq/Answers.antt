use Rattle.tw_core.proofs.Headline as core
use Rattle.tw_model.specs.Case.{simulation}
use Rattle.tw_model.proofs.Lawful.{lawful, numbered}
use Rattle.tw_shard.proofs.laws.good_is_seq.Goals as goal

pub returns-clause-good : goal.returns-clause-good
returns-clause-good c = λ case is C good. core.good_is_seq (simulation case) (lawful case is) (numbered case is) C good

pub returns-clause-always : goal.returns-clause-always
returns-clause-always c = λ case is C steps opens. core.always_seq (simulation case) (lawful case is) (numbered case is) C opens steps
