-- The events of all senders, by sender (own).
use Rattle.std.specs.Prelude.{ℕ, []}
use Rattle.std.specs.List.{slice_index_or}
use Rattle.tw_event.specs.Order.{event_before, event_same}
use Rattle.tw_sim.specs.Rising.{IsRising}
use Rattle.tw_ordered.specs.Buckets.{IsPlaced}
use Rattle.tw_held.specs.declared.sender_table.SenderTable.TheInside.{Inside}

-- each queue is in order, and has what its router alone has sent
pub record IsSenderTable (a : Inside) : Type 0 where
  pub placed : IsPlaced (λ e. e.src) a.queues.items
  pub rising : (r : ℕ) → IsRising event_before event_same (slice_index_or a.queues.items r [])
