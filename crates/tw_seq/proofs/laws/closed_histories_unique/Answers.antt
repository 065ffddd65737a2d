use Rattle.tw_model.specs.Case.{simulation}
use Rattle.tw_sim.specs.Seq.{log}
use Rattle.tw_sim.proofs.Closed as closed
use Rattle.tw_sim.proofs.Unique as unique
use Rattle.tw_model.proofs.Lawful.{lawful, numbered}
use Rattle.tw_seq.proofs.laws.closed_histories_unique.Goals as goal

pub returns-clause-closed : goal.returns-clause-closed
returns-clause-closed c = λ case is t.
    unique.list_closed (simulation case) (lawful case is) t (log (simulation case) t) (closed.log_closed (simulation case) (lawful case is) (numbered case is) t)

pub returns-clause-unique : goal.returns-clause-unique
returns-clause-unique c = λ case is t histories are r. closed.histories_are_log (simulation case) (lawful case is) (numbered case is) t histories are r
