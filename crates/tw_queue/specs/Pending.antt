-- What the fields of the pending events say, and what holds of them (own).
use Rattle.std.specs.Prelude.{◌≡◌, ◌+◌, ◌-◌, ◌^◌, ◌++◌, ℕ, false, List, [], length, min}
use Rattle.tw_event.specs.declared.event.Event.{Event}
use Rattle.tw_event.specs.Order.{event_before}
use Rattle.tw_ordered.specs.InOrder.{in_order}
use Rattle.tw_ordered.specs.Queue.{AreFor, Queue}
use Rattle.tw_ordered.specs.Times.{first_time}
use Rattle.tw_queue.specs.declared.pending.Pending.TheInside.{Inside}

-- the events of a calendar and of the rest, in order
abbrev pub together_with : List Event → Queue → List Event
together_with calendar rest = in_order event_before (calendar ++ rest.events)

-- the room of the rest, as far as the number of events may grow
abbrev pub room_of : Inside → ℕ
room_of a = min a.rest.room (2 ^ 64 - 1 - a.len)

-- the calendar's events are for its routers, and there are some only where events are kept by time; all are counted, and the rest's least time is kept
pub record IsPending (a : Inside) : Type 0 where
  pub homes : AreFor a.rest.routers a.calendar
  pub by_router : a.by_time ≡ false → a.calendar ≡ []
  pub len : a.len ≡ length a.calendar + length a.rest.events
  pub rest_time : a.rest_time ≡ first_time a.rest.events
