-- What a state of the machine has of the one-thread run (own).
use Rattle.std.specs.Prelude.{ℕ, ◌≡◌, ◌<◌, ◌≤◌, ◌↔◌, List, []}
use Rattle.tw_core.specs.Machine.{Core, committed, times_handled}
use Rattle.tw_sim.specs.Seq.{at, insert_all, log, rest}
use Rattle.tw_sim.specs.Simulation.{Simulation, IsFalling, below, only, state, times}

module _ {S E : Type 0} (m : Simulation S E) where
  -- every handled event below the bound is committed
  abbrev pub AreCommitted : Core E → Type 0
  AreCommitted C = (e : E) → 0 < times_handled m C e → m.time e < C.bound → m.time e < C.done (m.dst e)

  -- the committed events, and each router's state after them, are those of the one-thread run
  pub record IsSeq (C : Core E) : Type 0 where
    -- each router's are its events of the run to the bound of its latest commit
    pub events : (r : ℕ) → committed m C r ≡ only m r (log m (C.done r))
    -- and it knows what it knows there
    pub states : (r : ℕ) → state m r (committed m C r) ≡ at m (C.done r) r
    -- all that is handled below the bound, committed or not, is the run to the bound
    pub handled : (r : ℕ) → below m C.bound (C.history r) ≡ only m r (log m C.bound)
    -- and where all of it is committed, the committed events together, in the order, are that run
    pub together : AreCommitted C → (events : List E) → IsFalling m events
        → ((e : E) → (0 < times m e events) ↔ (0 < times m e (committed m C (m.dst e)))) → events ≡ log m C.bound

  -- nothing is in flight or held, and nothing is pending before the stop
  pub record IsSettled (C : Core E) : Type 0 where
    -- no message is on its way
    pub flight : C.flight ≡ []
    -- and no antimessage waits to go out
    pub held : C.held ≡ []
    -- what waits is not before the stop
    pub pending : (e : E) → 0 < times m e C.pending → C.stop ≤ m.time e

  -- the state is that at the end of the one-thread run to the stop
  pub record IsAtEnd (C : Core E) : Type 0 where
    -- no antimessage waits for its message
    pub kept : C.kept ≡ []
    -- each router has handled its events of the run
    pub events : (r : ℕ) → C.history r ≡ only m r (log m C.stop)
    -- and knows what it knows there
    pub states : (r : ℕ) → state m r (C.history r) ≡ at m C.stop r
    -- what is pending, in the order, is what the run leaves
    pub pending : insert_all m C.pending [] ≡ rest m C.stop
