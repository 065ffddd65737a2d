-- A cut of the one-thread run: all before a time is handled, and nothing is on its way (own, after Chandy, Lamport, Distributed
-- snapshots, 1985).
use Rattle.std.specs.Prelude.{ℕ, ◌≡◌, ◌≤◌, []}
use Rattle.tw_core.specs.Machine.{Core}
use Rattle.tw_sim.specs.Seq.{log, rest}
use Rattle.tw_sim.specs.Simulation.{Simulation, only, times}

module _ {S E : Type 0} (m : Simulation S E) where
  -- the machine stands at a cut at time t
  pub record IsCut (t : ℕ) (C : Core E) : Type 0 where
    -- each router has handled its events of the run to t
    pub history : (r : ℕ) → C.history r ≡ only m r (log m t)
    -- what is pending is what that run leaves, in any order
    pub pending : (e : E) → times m e C.pending ≡ times m e (rest m t)
    -- nothing is kept, in flight or held
    pub kept : C.kept ≡ []
    pub flight : C.flight ≡ []
    pub held : C.held ≡ []
    -- no commit is beyond t
    pub done : (r : ℕ) → C.done r ≤ t
    -- the bound is t, and that is not beyond the stop
    pub bound : C.bound ≡ t
    pub stop : t ≤ C.stop
