-- Events in sixteen buckets by their times (own).
use Rattle.std.specs.Prelude.{◌≡◌, ◌<◌, ◌/◌, ◌%◌, ℕ, List, [], length}
use Rattle.std.specs.List.{slice_index_or}
use Rattle.tw_event.specs.declared.event.Event.{Event}
use Rattle.tw_event.specs.Order.{event_before, event_same}
use Rattle.tw_sim.specs.Ordered.{times}
use Rattle.tw_ordered.specs.Buckets.{IsPlaced, together}
use Rattle.tw_ordered.specs.InOrder.{in_order}
use Rattle.tw_queue.specs.Times.{IsLeastTime}
use Rattle.tw_ordered.specs.Times.{never}
use Rattle.tw_queue.specs.declared.far.FarEvents.TheInside.{Inside}

-- the number of an event's bucket: each has 64 ticks, and every sixteenth of these has the same
abbrev pub bucket_of : Event → ℕ
bucket_of e = e.time / 64 % 16

-- all events in buckets, in order
abbrev pub far_events : Inside → List Event
far_events a = in_order event_before (together a.buckets)

-- each event stands in its bucket and before the last tick, and the least times of all events and of each bucket are kept
pub record AreFar (a : Inside) : Type 0 where
  pub number : length a.buckets ≡ 16
  pub times_number : length a.least_times ≡ 16
  pub placed : IsPlaced bucket_of a.buckets
  pub early : (e : Event) → 0 < times event_same e (together a.buckets) → e.time < never
  pub least : (i : ℕ) → i < 16 → IsLeastTime (slice_index_or a.buckets i []) (slice_index_or a.least_times i 0)
  pub soonest : IsLeastTime (together a.buckets) a.soonest
