-- What the fields of the held events say, and what holds of them (own).
use Rattle.std.specs.Prelude.{◌≡◌, ◌-◌, ◌^◌, ℕ, List, length, min, vec_capacity, vec_len}
use Rattle.tw_event.specs.declared.event.Event.{Event}
use Rattle.tw_event.specs.Order.{event_before, event_same}
use Rattle.tw_sim.specs.Ordered.{insert_all}
use Rattle.tw_sim.specs.Rising.{IsRising}
use Rattle.tw_held.specs.Held.{AreFrom}
use Rattle.tw_held.specs.declared.held.HeldSends.TheInside.{Inside}

-- all events, in rising order
abbrev pub events_of : Inside → List Event
events_of a = insert_all event_before a.spare.items a.table

-- the free places of the spare list, as far as the number of events may grow
abbrev pub room_of : Inside → ℕ
room_of a = min (vec_capacity a.spare - vec_len a.spare) (2 ^ 64 - 1 - a.len)

-- all events are in order, sent by its routers and counted
pub record AreHeld (a : Inside) : Type 0 where
  pub rising : IsRising event_before event_same a.table
  pub senders : AreFrom a.routers (events_of a)
  pub len : a.len ≡ length (events_of a)
