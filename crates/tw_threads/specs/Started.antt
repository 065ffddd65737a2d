-- Workers that were started, and what all of them leave (own).
use Rattle.std.specs.Prelude.{ℕ, ◌≡◌, ⊤, Bool, false, true, List, Option, Some, map, slice_get}
use Rattle.std.specs.List.{AllByRecursion, AllZip}
use Rattle.tw_table.specs.Seats.{IsSeatOf, halted_at, share_at, stop_at}
use Rattle.tw_table.specs.Shares.{Share}
use Rattle.tw_table.specs.declared.seat.Seat.{Seat}
use Rattle.tw_table.specs.declared.table.Table.{Table}
use Rattle.tw_threads.specs.Left.{IsLaterSeat, IsLeft}
use Rattle.tw_threads.specs.declared.end_cause.EndCause.{EndCause}
use Rattle.tw_threads.specs.declared.end_cause.EndCause.TheVariants as cause
use Rattle.tw_threads.specs.declared.start.Started.{Started}
use Rattle.tw_threads.specs.declared.start.Started.TheVariants.{Aside, Here, Running}
use Rattle.tw_workers.specs.Seated.{IsSeated}
use Rattle.tw_workers.specs.Work.{IsFull}

-- some of these seats is of a worker that has a full counter
pub record IsSomeFull (seats : List Seat) : Type 0 where
  pub at : ℕ
  pub seat : Seat
  pub there : slice_get seats at ≡ Some seat
  pub full : IsFull (stop_at seat) (share_at seat).shard

-- some of these seats is of a worker that has told all workers to take no further turn, or was told so
pub record IsSomeHalted (seats : List Seat) : Type 0 where
  pub at : ℕ
  pub seat : Seat
  pub there : slice_get seats at ≡ Some seat
  pub halted : halted_at seat ≡ true

-- whether a worker's thread was refused
abbrev pub was_refused : {W : Type 0} → Started W → Bool
was_refused (Running h) = false
was_refused (Here l) = true
was_refused (Aside worker seat) = false

module _ {W : Type 0} (share : W → Share) (stop : W → ℕ) where
  -- these seats are of one table and of these workers, in their order, each with its worker's share and stop
  pub record AreSeated (t : Table) (seats : List Seat) (workers : List W) : Type 0 where
    pub own : AllByRecursion (IsSeatOf t) seats
    pub shares : map share_at seats ≡ map share workers
    pub stops : map stop_at seats ≡ map stop workers

  -- the worker of a seat was started: its thread promises what it leaves, or it has left, or it waits for the others to leave
  abbrev pub IsStarted : Table → Seat → Started W → Type 0
  IsStarted t s (Running h) = (h.promise.table.value ≡ t) × (h.promise.seat.value ≡ s)
  IsStarted t s (Here l) = IsLeft (share l.worker) t s l.seat l.why
  IsStarted t s (Aside worker seat) = IsLaterSeat t s seat × IsSeated t seat (share worker) (stop worker)

  -- one that waits has its seat
  abbrev pub MaySit : Table → Started W → Type 0
  MaySit t (Running h) = ⊤
  MaySit t (Here l) = ⊤
  MaySit t (Aside worker seat) = IsSeated t seat (share worker) (stop worker)

module _ {W : Type 0} (share : W → Share) where
  -- the workers of these seats have left those seats, and why
  pub record HaveLeft (t : Table) (before after : List Seat) (workers : List W) (why : Option EndCause) : Type 0 where
    pub left : AllZip (IsLaterSeat t) before after
    pub shares : map share_at after ≡ map share workers
    pub full : why ≡ Some cause.CounterFull → IsSomeFull after
    pub thread : why ≡ Some cause.NoThread → IsSomeHalted after
    -- no worker refuses a stop
    pub lower : why ≡ Some cause.StopLower → ⊥
