-- A sequential run of a model, as far as it has come (own, after Griffin, Shepherd, Wilfong 2002).
use Rattle.std.specs.Prelude.{ℕ, ◌≡◌, ◌≤◌, ◌<◌, ◌⊎◌, true, List, [], ◌∷◌, length}
use Rattle.tw_process.specs.declared.limits.TheConstants.{LATEST}
use Rattle.tw_sequential.specs.declared.limits.TheConstants.{MOST_EVENTS}
use Rattle.tw_sim.specs.Seq.{World, begin, log, rest, turns}
use Rattle.tw_sim.specs.Simulation.{Simulation, only, state}

-- the greatest stop asked for, the events handled, the newest first, and the events pending, the least first
pub record Run (M E : Type 0) : Type 0 where
  pub model : M
  pub stop : ℕ
  pub log : List E
  pub rest : List E

module _ {S E : Type 0} (m : Simulation S E) where
  -- the sequential run after so many events
  abbrev pub world_after : ℕ → World E
  world_after n = turns m n LATEST (begin m)

  -- no event of a list in ascending order is before t: the first isn't
  abbrev pub NoneBefore : ℕ → List E → Type 0
  NoneBefore t [] = Unit {0}
  NoneBefore t (e ∷ later) = t ≤ m.time e

module _ {M S E : Type 0} (m : Simulation S E) where
  -- nothing is handled
  abbrev pub opening_run : M → Run M E
  opening_run model = record { model = model; stop = 0; log = (begin m).log; rest = (begin m).rest }

  -- all events before the stop are handled
  abbrev pub complete_run : M → ℕ → Run M E
  complete_run model stop = record { model = model; stop = stop; log = log m stop; rest = rest m stop }

  -- a run that has handled so many events, with these pending
  abbrev pub run_after : M → ℕ → ℕ → List E → Run M E
  run_after model stop n pending = record { model = model; stop = stop; log = (world_after m n).log; rest = pending }

  -- its events, as the sequential run has them
  abbrev pub world : Run M E → World E
  world run = record { log = run.log; rest = run.rest }

  -- the sequential run has come so far on the way to its stop
  abbrev pub IsBegun : Run M E → Type 0
  IsBegun run = (n : ℕ) × (turns m n run.stop (begin m) ≡ world run)

  -- the later run has gone on from the earlier
  abbrev pub Continues : Run M E → Run M E → Type 0
  Continues earlier later = (n : ℕ) × (turns m n later.stop (world earlier) ≡ world later)

  -- e is the least pending event, and before the stop
  abbrev pub IsNext : Run M E → E → Type 0
  IsNext run e = (later : List E) × (run.rest ≡ e ∷ later) × (m.time e < run.stop)

  -- handling the least pending event, which is before the stop, would pass a counter's limit: the model's, or that of events
  abbrev pub IsStuck : Run M E → Type 0
  IsStuck run = (e : E) × IsNext run e × ((m.full (state m (m.dst e) (only m (m.dst e) run.log)) e ≡ true) ⊎ (MOST_EVENTS ≤ length run.log))

  -- one event more is handled
  abbrev pub IsNextRun : Run M E → Run M E → Type 0
  IsNextRun run next = (next.model ≡ run.model) × (next.stop ≡ run.stop) × (turns m 1 run.stop (world run) ≡ world next)
