use Rattle.std.proofs.Common.{◌≡◌, ◌==◌, ◌+◌, drop, filter}
use Rattle.tw_event.specs.declared.event.Event.{Event}
use Rattle.tw_event.specs.Order.{event_same}
use Rattle.tw_sim.specs.Ordered.{times}
use Rattle.tw_queue.proofs.timed_events.copy_tick.Given as goal

abbrev pub invariant-loop-event : goal.invariant-loop-event
invariant-loop-event l =
    (e : Event) → times event_same e l.queue + times event_same e (filter (λ d. d.time == l.time) (drop l.event-index l.events))
    ≡ times event_same e (filter (λ d. d.time == l.time) l.events) + times event_same e l.fn.queue
