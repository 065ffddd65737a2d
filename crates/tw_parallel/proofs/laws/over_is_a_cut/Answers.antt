use Rattle.tw_parallel.proofs.Cuts as cuts
use Rattle.tw_parallel.proofs.Ends.{ended}
use Rattle.tw_parallel.proofs.laws.over_is_a_cut.Goals as goal

pub returns-clause-cut : goal.returns-clause-cut
returns-clause-cut c = λ s is settled. cuts.over_is_a_cut s is settled

pub returns-clause-end : goal.returns-clause-end
returns-clause-end c = λ s is settled. ended s is settled
