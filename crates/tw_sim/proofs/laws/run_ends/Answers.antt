use Rattle.tw_sim.proofs.Closed as closed
use Rattle.tw_sim.proofs.laws.run_ends.Goals as goal

pub returns : goal.returns
returns c = λ start m law numbered t e h. closed.rest_late m law numbered t e h
