-- The events of all routers, by router (own).
use Rattle.std.specs.Prelude.{◌≡◌, ◌<◌, ℕ, [], map}
use Rattle.std.specs.List.{slice_index_or}
use Rattle.tw_event.specs.declared.event.Event.{Event}
use Rattle.tw_event.specs.Order.{event_before, event_same}
use Rattle.tw_sim.specs.Ordered.{times}
use Rattle.tw_sim.specs.Rising.{IsRising}
use Rattle.tw_ordered.specs.Times.{first_time, never}
use Rattle.tw_ordered.specs.Buckets.{IsPlaced}
use Rattle.tw_queue.specs.declared.queue_table.QueueTable.TheInside.{Inside}

-- each queue is in order, has events of its router alone, before the last tick, and its first time stands in the row
pub record IsQueueTable (a : Inside) : Type 0 where
  pub placed : IsPlaced (λ e. e.dst) a.queues.items
  pub rising : (r : ℕ) → IsRising event_before event_same (slice_index_or a.queues.items r [])
  pub early : (r : ℕ) (e : Event) → 0 < times event_same e (slice_index_or a.queues.items r []) → e.time < never
  pub first : a.least_times ≡ map first_time a.queues.items
