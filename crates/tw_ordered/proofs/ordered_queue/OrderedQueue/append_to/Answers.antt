use Rattle.std.proofs.Common.{arith}
use Rattle.tw_ordered.proofs.Lists.{times-append}
use Rattle.tw_ordered.proofs.ordered_queue.OrderedQueue.append_to.Goals as goal

pub returns : goal.returns
returns c = grind (arith, times-append)
