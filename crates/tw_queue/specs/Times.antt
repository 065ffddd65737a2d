-- The times of events that stand in buckets, and of those that stand before them (own).
use Rattle.std.specs.Prelude.{◌≡◌, ◌≤◌, ◌<◌, ℕ, Option, Some, None, List, [], length}
use Rattle.std.specs.declared.boxed.Box.{Box}
use Rattle.tw_event.specs.declared.event.Event.{Event}
use Rattle.tw_event.specs.Order.{event_same}
use Rattle.tw_sim.specs.Ordered.{times}
use Rattle.tw_ordered.specs.Times.{never}

-- no event is before the time, one is at it, and where there is no event it is the one that stands for none
pub record IsLeastTime (events : List Event) (time : ℕ) : Type 0 where
  pub bound : (e : Event) → 0 < times event_same e events → time ≤ e.time
  pub reached : 0 < length events → (e : Event) × (0 < times event_same e events) × (e.time ≡ time)
  pub none : events ≡ [] → time ≡ never

-- each of the near events is before all of the far ones, by their times
abbrev pub AreNearFirst : List Event → List Event → Type 0
AreNearFirst near far = (d e : Event) → 0 < times event_same d near → 0 < times event_same e far → d.time < e.time

-- the events in buckets, where there are buckets
abbrev pub in_buckets : {Z : Type 0} → Option (Box (List Event) Z) → List Event
in_buckets None = []
in_buckets (Some far) = far.value
