-- The wheel above the ring: events by widths of time, each width in a bucket of its own (own).
use Rattle.std.specs.Prelude.{◌≤◌, ◌<◌, ◌/◌, ℕ, List}
use Rattle.tw_event.specs.declared.event.Event.{Event}
use Rattle.tw_event.specs.Order.{event_before, event_same}
use Rattle.tw_sim.specs.Ordered.{times}
use Rattle.tw_ordered.specs.Buckets.{together}
use Rattle.tw_ordered.specs.InOrder.{in_order}
use Rattle.tw_calendar.specs.Turn.{IsTurn}
use Rattle.tw_calendar.specs.declared.wheel.Wheel.TheInside.{Inside}

-- in which width of 1,024 ticks an event lies
abbrev pub width_of : Event → ℕ
width_of e = e.time / 1024

-- all events of the wheel, in order
abbrev pub wheel_events : Inside → List Event
wheel_events a = in_order event_before (together a.buckets.items)

-- each bucket has the events of one of the 1,024 widths of time after the base, and no event is before the start
pub record IsWheel (a : Inside) : Type 0 where
  pub turn : IsTurn width_of a.base a.marks a.buckets.items
  pub start : (e : Event) → 0 < times event_same e (together a.buckets.items) → a.start ≤ e.time
