use Rattle.tw_parallel.proofs.Cuts.{machine_at, ruled_at, settled_at, sim_at}
use Rattle.tw_parallel.proofs.laws.at_a_cut.Goals as goal

pub returns-clause-rule : goal.returns-clause-rule
returns-clause-rule c = λ case time retains cancel x shares at. ruled_at case time retains cancel x shares at

pub returns-clause-sim : goal.returns-clause-sim
returns-clause-sim c = λ case time retains cancel x shares at some most. sim_at case time retains cancel x shares at some most

pub returns-clause-cut : goal.returns-clause-cut
returns-clause-cut c = λ case time retains cancel x shares at. machine_at case time retains cancel x shares at

pub returns-clause-settled : goal.returns-clause-settled
returns-clause-settled c = λ case time retains cancel x shares at last. settled_at case time retains cancel x shares at last
