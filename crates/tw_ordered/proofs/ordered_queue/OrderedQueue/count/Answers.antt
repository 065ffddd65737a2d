use Rattle.std.proofs.Common.{arith}
use Rattle.tw_ordered.proofs.Lists.{times-append}
use Rattle.tw_ordered.proofs.Places.{count_times}
use Rattle.tw_ordered.proofs.ordered_queue.OrderedQueue.count.Goals as goal

pub returns-clause-times : goal.returns-clause-times
returns-clause-times c = grind (arith, count_times, times-append)
