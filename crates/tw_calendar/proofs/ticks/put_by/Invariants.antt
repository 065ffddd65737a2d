use Rattle.std.proofs.Common.{◌≡◌, ◌+◌, drop}
use Rattle.tw_event.specs.declared.event.Event.{Event}
use Rattle.tw_event.specs.Order.{event_same}
use Rattle.tw_sim.specs.Ordered.{times}
use Rattle.tw_ordered.specs.Buckets.{together}
use Rattle.tw_calendar.specs.Update.{events_at}
use Rattle.tw_calendar.proofs.ticks.put_by.Given as goal

abbrev pub invariant-loop-update : goal.invariant-loop-update
invariant-loop-update l =
    (e : Event) → times event_same e (together l.routers) + times event_same e (events_at l.time (drop l.update-index l.updates)) ≡ times event_same e (events_at l.time l.updates) + times event_same e (together l.fn.routers)
