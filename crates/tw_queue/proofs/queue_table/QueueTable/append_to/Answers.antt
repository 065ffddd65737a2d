use Rattle.std.proofs.Common.{arith}
use Rattle.tw_ordered.proofs.Events.{event_law}
use Rattle.tw_ordered.proofs.Ordered.{times-in_order}
use Rattle.tw_queue.proofs.queue_table.QueueTable.append_to.Goals as goal

pub returns : goal.returns
returns c = grind (arith, times-in_order, event_law)
