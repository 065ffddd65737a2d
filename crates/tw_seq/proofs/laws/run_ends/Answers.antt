use Rattle.tw_model.specs.Case.{simulation}
use Rattle.tw_sim.proofs.Closed as closed
use Rattle.tw_model.proofs.Lawful.{lawful, numbered}
use Rattle.tw_seq.proofs.laws.run_ends.Goals as goal

pub returns : goal.returns
returns c = λ case is t e h. closed.rest_late (simulation case) (lawful case is) (numbered case is) t e h
