use Rattle.std.proofs.Common.{◌≡◌, slice_get, take}
use Rattle.std.specs.Option.{option_copied}
use Rattle.tw_event.specs.Order.{event_before}
use Rattle.tw_ordered.specs.Buckets.{together}
use Rattle.tw_ordered.specs.InOrder.{in_order}
use Rattle.tw_held.proofs.sender_table.least_first.Given as goal

abbrev pub invariant-loop-queue : goal.invariant-loop-queue
invariant-loop-queue l =
    option_copied l.least ≡ slice_get (in_order event_before (together (take l.queue-index l.queues))) 0
