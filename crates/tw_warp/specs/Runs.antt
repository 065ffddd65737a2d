-- A list of steps that memory was refused to (own).
use Rattle.std.specs.Prelude.{ℕ, ◌≡◌, ◌<◌, ◌+◌, ◌⊎◌, List, length, slice_get, Some, take, Ok}
use Rattle.tw_core.specs.Machine.{Core}
use Rattle.tw_core.specs.Steps.{answers, run, step as one_step}
use Rattle.tw_sim.specs.declared.machine.Step.{Step}
use Rattle.tw_sim.specs.Simulation.{Simulation}
use Rattle.tw_warp.specs.declared.warp.RunFault.{RunFault}
use Rattle.tw_warp.specs.Warp.{IsInterrupted}

-- the run was broken off at one of its steps
pub record IsBrokenOff {S E : Type 0} (m : Simulation S E) (steps : List Step) (fault : RunFault) (C D : Core E) : Type 0 where
  -- how many steps were taken before it
  pub count : ℕ
  -- there is a next one
  pub there : count < length steps
  -- the fault names the next one, and has their answers
  pub step : fault.step ≡ count + 1
  pub before : fault.answers.items ≡ answers m C (take count steps)
  -- nothing was begun; or they stand, the next one is of the list and would have been done, and of it stands what a step leaves that memory was refused to
  pub left : ((count ≡ 0) × (D ≡ C))
      ⊎ ((x : Step) × (slice_get steps count ≡ Some x) × ((B : Core E) × (one_step m (run m C (take count steps)) x ≡ Ok B))
      × IsInterrupted m x (run m C (take count steps)) D)
