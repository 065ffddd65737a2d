use Rattle.tw_sim.proofs.Closed as closed
use Rattle.tw_sim.specs.Seq.{log}
use Rattle.tw_sim.proofs.Unique.{list_closed}
use Rattle.tw_sim.proofs.laws.closed_histories_unique.Goals as goal

pub returns-clause-closed : goal.returns-clause-closed
returns-clause-closed c = λ start m law numbered t. list_closed m law t (log m t) (closed.log_closed m law numbered t)

pub returns-clause-unique : goal.returns-clause-unique
returns-clause-unique c = λ start m law numbered t hist are r. closed.histories_are_log m law numbered t hist are r
