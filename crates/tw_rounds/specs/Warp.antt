-- A parallel run of a model, as its user sees it (own, after Jefferson, Virtual Time, 1985).
use Rattle.std.specs.Prelude.{ℕ, zero, suc, ◌≡◌, ◌<◌, ◌≤◌, true, List, [], ◌∷◌, Option, None, Some, slice_get}
use Rattle.std.specs.Option.{option_map_or}
use Rattle.tw_core.specs.Steps.{first_pending}
use Rattle.tw_engine.specs.Process.{Logical, history, process_core}
use Rattle.tw_rounds.specs.Alone.{bound_of}
use Rattle.tw_sequential.specs.Run.{Run}
use Rattle.tw_sim.specs.Seq.{log}
use Rattle.tw_sim.specs.Simulation.{Simulation, below, only, state}

-- a run, as far as it has come
pub record Warp (M E : Type 0) : Type 0 where
  pub model : M
  -- the greatest stop asked for, and the bound: what was handled before it stays
  pub stop : ℕ
  pub bound : ℕ
  -- the processes, each at its number
  pub processes : List (Logical M E)

module _ {M E : Type 0} where
  -- what process r has handled and not undone, the newest event first
  abbrev pub handled : ℕ → Warp M E → List E
  handled r w = option_map_or history (slice_get w.processes r) []

  -- the later run is of the same model and to the same stop
  pub record IsSameRun (v w : Warp M E) : Type 0 where
    pub model : w.model ≡ v.model
    pub stop : w.stop ≡ v.stop

module _ {S M E : Type 0} (m : Simulation S E) where
  -- a run before its first event
  pub record IsOpening (model : M) (w : Warp M E) : Type 0 where
    pub same : w.model ≡ model
    pub stop : w.stop ≡ 0
    pub bound : w.bound ≡ 0
    pub none : (r : ℕ) → handled r w ≡ []

  -- each process has handled its events of the sequential run to the stop, and no others
  abbrev pub HasRun : Warp M E → Type 0
  HasRun w = (r : ℕ) → r < m.routers → handled r w ≡ only m r (log m w.stop)

  -- before the bound each process has handled its events of the sequential run, and no others
  abbrev pub IsRight : Warp M E → Type 0
  IsRight w = (r : ℕ) → r < m.routers → below m w.bound (handled r w) ≡ only m r (log m w.bound)

  -- a counter is full for the first pending event of a process, and that is at this bound, so that nothing takes it back
  pub record IsStuckAt (bound : ℕ) (p : Logical M E) : Type 0 where
    pub event : E
    pub first : first_pending m (process_core bound p) p.number ≡ Some event
    pub time : m.time event ≡ bound
    pub full : m.full (state m p.number (history p)) event ≡ true

  -- a process of a run is stuck at its bound
  pub record IsStuck (w : Warp M E) : Type 0 where
    pub number : ℕ
    pub process : Logical M E
    pub there : slice_get w.processes number ≡ Some process
    pub stuck : IsStuckAt w.bound process

  -- ---- the two ways in which it goes on

  -- process r of a run by one thread alone, which can undo nothing
  abbrev pub process_of : Run M E → ℕ → Logical M E
  process_of run r = record { model = run.model; number = r; ahead = []; past = only m r run.log; pending = only m r run.rest; kept = []; flight = []; done = 0; bound = 0 }

  -- so many of them, from this number on
  abbrev pub processes_from : Run M E → ℕ → ℕ → List (Logical M E)
  processes_from run zero r = []
  processes_from run (suc n) r = process_of run r ∷ processes_from run n (suc r)

  -- the processes of a run that goes on alone, or in rounds
  abbrev pub processes_in : Option (Run M E) → Option (Warp M E) → List (Logical M E)
  processes_in (Some run) rounds = processes_from run m.routers 0
  processes_in None (Some w) = w.processes
  processes_in None None = []

  -- its bound
  abbrev pub bound_in : Option (Run M E) → Option (Warp M E) → ℕ
  bound_in (Some run) rounds = bound_of m run
  bound_in None (Some w) = w.bound
  bound_in None None = 0

  -- it is of this model, has come to no later stop than this one, and goes on in one way
  abbrev pub GoesOneWay : M → ℕ → Option (Run M E) → Option (Warp M E) → Type 0
  GoesOneWay model stop (Some run) None = (run.model ≡ model) × (run.stop ≤ stop)
  GoesOneWay model stop None (Some w) = (w.model ≡ model) × (w.stop ≤ stop)
  GoesOneWay model stop _ _ = ⊥
