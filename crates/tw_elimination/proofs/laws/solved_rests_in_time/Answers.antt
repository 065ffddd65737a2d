use Rattle.tw_elimination.proofs.Bounds.{quiet, safe, there}
use Rattle.tw_elimination.proofs.laws.solved_rests_in_time.Goals as goal

pub returns-clause-safe : goal.returns-clause-safe
returns-clause-safe c = λ case is n solved. safe case n is solved

pub returns-clause-quiet : goal.returns-clause-quiet
returns-clause-quiet c = λ case is n solved t over. quiet case n is solved t over

pub returns-clause-there : goal.returns-clause-there
returns-clause-there c = λ case is n v q one t over. there case n is v q one t over
