-- An event without its time (own).
use Rattle.std.specs.Prelude.{ℕ, List, map}
use Rattle.tw_event.specs.declared.event.Body.TheVariants as body
use Rattle.tw_event.specs.declared.event.Event.{Event}
use Rattle.tw_calendar.specs.declared.update.Update.{Update}

-- the event that an update is at a time
abbrev pub event_at : ℕ → Update → Event
event_at time u = record { time = time; dst = u.dst; src = u.src; seq = u.seq; body = body.Update u.path u.session }

-- the events that updates are at a time
abbrev pub events_at : ℕ → List Update → List Event
events_at time updates = map (event_at time) updates
