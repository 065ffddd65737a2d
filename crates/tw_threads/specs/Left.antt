-- How workers leave a table (own).
use Rattle.std.specs.Prelude.{ℕ, ◌≡◌, ◌≤◌, List, Some, slice_get, true}
use Rattle.tw_shard.specs.Shard.{IsSameShare}
use Rattle.tw_table.specs.Seats.{IsSeatOf, bound_at, halted_at, share_at, stop_at}
use Rattle.tw_table.specs.Shares.{Share}
use Rattle.tw_table.specs.declared.seat.Seat.{Seat}
use Rattle.tw_table.specs.declared.table.Table.{Table}
use Rattle.tw_workers.specs.Work.{IsFull}
use Rattle.tw_workers.specs.declared.working.Leaving.{Leaving}
use Rattle.tw_workers.specs.declared.working.Leaving.TheVariants.{CounterFull, Settled}

-- the seat that a worker had at a table, and the one that it leaves
pub record IsLaterSeat (t : Table) (before after : Seat) : Type 0 where
  pub seat : IsSeatOf t after
  pub stop : stop_at after ≡ stop_at before
  pub bound : bound_at before ≤ bound_at after
  -- its share is the same worker's
  pub same : IsSameShare (share_at before).shard (share_at after).shard

-- a worker with this share has left so, for this reason
pub record IsLeft (s : Share) (t : Table) (before after : Seat) (why : Leaving) : Type 0 where
  pub left : IsLaterSeat t before after
  pub share : share_at after ≡ s
  -- where it has not come to its stop, all workers were told to take no further turn
  pub halts : (why ≡ Settled → ⊥) → halted_at after ≡ true
  pub full : why ≡ CounterFull → IsFull (stop_at after) (share_at after).shard

-- one of these shares has a router whose counter would pass its limit
pub record IsFullAhead (stop : ℕ) (shares : List Share) : Type 0 where
  pub at : ℕ
  pub share : Share
  pub there : slice_get shares at ≡ Some share
  pub full : IsFull stop share.shard
