-- How a run of a case as a model ends (own).
use Rattle.std.specs.Prelude.{ℕ, ◌≡◌, List}
use Rattle.tw_event.specs.declared.event.Event.{Event}
use Rattle.tw_model.specs.Case.{Case, simulation}
use Rattle.tw_model.specs.State.{Router}
use Rattle.tw_rounds.specs.Warp.{HasRun, IsRight, Warp}
use Rattle.tw_rounds.specs.Warp as warp
use Rattle.tw_sequential.specs.Run.{IsBegun, IsStuck, Run}
use Rattle.tw_sim.specs.Simulation.{only, state}

-- router r after these events, the newest first
abbrev pub router_after : Case → List Event → ℕ → Router
router_after case log r = record { net = case.net; node = r; state = state (simulation case) r (only (simulation case) r log) }

-- on its way to the stop the run of the case comes to an event that would pass a counter's limit
pub record GetsStuck (case : Case) (stop : ℕ) : Type 0 where
  pub run : Run Case Event
  pub own : run.model ≡ case
  pub to_stop : run.stop ≡ stop
  pub begun : IsBegun (simulation case) run
  pub stuck : IsStuck (simulation case) run

-- a run in threads has come to this stop, and each router has handled its events of the case's sequential run, and no others
pub record IsComplete (case : Case) (stop : ℕ) (run : Warp Case Event) : Type 0 where
  pub own : run.model ≡ case
  pub to_stop : run.stop ≡ stop
  pub there : run.bound ≡ run.stop
  pub has_run : HasRun (simulation case) run

-- on its way to the stop a run in threads, which is right before its bound, has a router whose next event is at the bound and would pass a
-- counter's limit
pub record IsHeldUp (case : Case) (stop : ℕ) : Type 0 where
  pub run : Warp Case Event
  pub own : run.model ≡ case
  pub to_stop : run.stop ≡ stop
  pub right : IsRight (simulation case) run
  pub stuck : warp.IsStuck (simulation case) run
