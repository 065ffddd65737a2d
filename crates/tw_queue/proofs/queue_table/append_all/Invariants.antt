use Rattle.std.proofs.Common.{◌≡◌, ◌+◌, drop}
use Rattle.tw_event.specs.declared.event.Event.{Event}
use Rattle.tw_event.specs.Order.{event_same}
use Rattle.tw_sim.specs.Ordered.{times}
use Rattle.tw_ordered.specs.Buckets.{together}
use Rattle.tw_queue.proofs.queue_table.append_all.Given as goal

abbrev pub invariant-loop-queue : goal.invariant-loop-queue
invariant-loop-queue l =
    (e : Event) → times event_same e (together (drop l.queue-index l.queues)) + times event_same e l.events.items ≡ times event_same e (together l.queues) + times event_same e l.fn.events.items
