use Rattle.tw_sim.proofs.Closed as closed
use Rattle.tw_sim.proofs.Unique as unique
use Rattle.tw_sim.proofs.laws.closed_unique.Goals as goal

pub returns-clause-closed : goal.returns-clause-closed
returns-clause-closed c = λ start m law numbered t. closed.log_closed m law numbered t

pub returns-clause-unique : goal.returns-clause-unique
returns-clause-unique c = λ start m law t one two first second. unique.same_lists m law t one two first second
