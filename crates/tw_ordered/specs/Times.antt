-- The first and the last time of events (own).
use Rattle.std.specs.Prelude.{◌≡◌, ◌≤◌, ◌<◌, ◌-◌, ◌^◌, ℕ, List, [], ◌∷◌}
use Rattle.tw_event.specs.declared.event.Event.{Event}
use Rattle.tw_event.specs.Order.{event_same}
use Rattle.tw_sim.specs.Ordered.{times}

-- the time that stands for no event
abbrev pub never : ℕ
never = 2 ^ 64 - 1

-- the time of the first event
abbrev pub first_time : List Event → ℕ
first_time [] = never
first_time (e ∷ events) = e.time

-- no event is after the time, and one is at it
pub record IsLastTime (events : List Event) (time : ℕ) : Type 0 where
  pub bound : (e : Event) → 0 < times event_same e events → e.time ≤ time
  pub reached : (e : Event) × (0 < times event_same e events) × (e.time ≡ time)
