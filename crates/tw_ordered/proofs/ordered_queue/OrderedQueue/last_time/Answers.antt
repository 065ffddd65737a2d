use Rattle.std.proofs.Common.{arith}
use Rattle.tw_ordered.proofs.Rows.{last_of_rising}
use Rattle.tw_ordered.proofs.ordered_queue.OrderedQueue.last_time.Goals as goal

pub returns-in-Some-clause-some : goal.returns-in-Some-clause-some
returns-in-Some-clause-some c = grind (arith, last_of_rising)
