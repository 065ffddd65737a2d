-- Events by time: those of the tick that is being handled, and those of later ticks, each tick in a bucket of its own (own).
use Rattle.std.specs.Prelude.{◌≤◌, ◌<◌, ◌++◌, List, drop, length}
use Rattle.tw_event.specs.declared.event.Event.{Event}
use Rattle.tw_event.specs.Order.{event_before, event_same}
use Rattle.tw_sim.specs.Ordered.{times}
use Rattle.tw_sim.specs.Rising.{IsRising}
use Rattle.tw_ordered.specs.Buckets.{together}
use Rattle.tw_ordered.specs.InOrder.{in_order}
use Rattle.tw_calendar.specs.Turn.{IsTurn}
use Rattle.tw_calendar.specs.declared.ring.Ring.TheInside.{Inside}

-- the events of the tick at hand that are not taken out yet
abbrev pub hand_of : Inside → List Event
hand_of a = drop a.taken a.hand

-- all events of a ring, in order
abbrev pub ring_events : Inside → List Event
ring_events a = in_order event_before (hand_of a ++ together a.buckets.items)

-- the tick at hand is in order and not after its time, and each bucket has the events of one of the 64 ticks after it
pub record IsRing (a : Inside) : Type 0 where
  pub taken : a.taken ≤ length a.hand
  pub rising : IsRising event_before event_same (hand_of a)
  pub begun : (e : Event) → 0 < times event_same e (hand_of a) → e.time ≤ a.tick
  pub turn : IsTurn (λ e. e.time) a.tick a.marks a.buckets.items
