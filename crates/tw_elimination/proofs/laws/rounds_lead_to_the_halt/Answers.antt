use Rattle.tw_elimination.proofs.Halting.{stays, takes_before}
use Rattle.tw_elimination.proofs.laws.rounds_lead_to_the_halt.Goals as goal

pub returns-clause-fewer : goal.returns-clause-fewer
returns-clause-fewer c = λ case n before. takes_before case n before

pub returns-clause-over : goal.returns-clause-over
returns-clause-over c = λ case k v within. stays case k v within
