-- A worker with its seat at a table (own).
use Rattle.std.specs.Prelude.{ℕ, ◌≡◌, ◌≤◌}
use Rattle.tw_table.specs.Seats.{IsSeatOf, bound_at, share_at, stop_at}
use Rattle.tw_table.specs.Shares.{Share}
use Rattle.tw_table.specs.declared.seat.Seat.{Seat}
use Rattle.tw_table.specs.declared.table.Table.{Table}
use Rattle.tw_workers.specs.Work.{IsSameWorker, Worker}

-- the seat is one of this table, of a worker with this share, which it gave there last, and with this stop
pub record IsSeated (t : Table) (s : Seat) (has : Share) (until : ℕ) : Type 0 where
  pub seat : IsSeatOf t s
  pub share : share_at s ≡ has
  pub stop : stop_at s ≡ until

-- a worker has taken turns at a table, or none: it is the same worker, and sits there
pub record HasTurned (t : Table) (before after : Seat) (v w : Worker) : Type 0 where
  pub same : IsSameWorker v w
  pub seated : IsSeated t after w.share w.stop
  -- the bound that its seat has seen does not fall
  pub bound : bound_at before ≤ bound_at after
