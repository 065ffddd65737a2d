use Rattle.tw_parallel.proofs.Cuts.{counted_of, no_records}
use Rattle.tw_parallel.proofs.laws.committed_are_counted.Goals as goal

pub returns-clause-counted : goal.returns-clause-counted
returns-clause-counted c = λ s is. counted_of s is

pub returns-clause-settled : goal.returns-clause-settled
returns-clause-settled c = λ s is settled. no_records s is settled
