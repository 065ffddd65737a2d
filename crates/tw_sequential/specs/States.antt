-- The states of a model's processes (own).
use Rattle.std.specs.Prelude.{ℕ, ◌≡◌, ◌≤◌, List, Some, length, slice_get}
use Rattle.tw_process.specs.declared.limits.TheConstants.{LATEST}
use Rattle.tw_sequential.specs.Run.{IsBegun, Run, world, world_after}
use Rattle.tw_sim.specs.Simulation.{Simulation, only, state}

module _ {T S E : Type 0} (m : Simulation S E) (is_state : ℕ → T → Type 0) (known : T → S) where
  -- each process is as the events handled left it
  pub record AreStates (log : List E) (states : List T) : Type 0 where
    pub count : length states ≡ m.routers
    pub each : (r : ℕ) (s : T) → slice_get states r ≡ Some s → is_state r s × (known s ≡ state m r (only m r log))

  -- what holds of a run with so many events handled and these states
  pub record IsRunWith {M : Type 0} (run : Run M E) (handled : ℕ) (states : List T) : Type 0 where
    -- its events are those of the sequential run
    pub begun : IsBegun m run
    pub after : world_after m handled ≡ world m run
    -- as many as are counted
    pub counted : length run.log ≡ handled
    -- the stop is within the limit
    pub stop : run.stop ≤ LATEST
    pub are : AreStates run.log states
