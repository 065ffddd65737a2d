-- What holds of the machine after every list of steps (after Jefferson, Virtual Time, 1985).
use Rattle.std.specs.Prelude.{ℕ, ◌+◌, ◌≡◌, ◌<◌, ◌≤◌, true, false}
use Rattle.tw_core.specs.Machine.{Core, antimessages, messages, times_handled, times_loose}
use Rattle.tw_sim.specs.Simulation.{Simulation, IsFalling, sent, times}

module _ {S E : Type 0} (m : Simulation S E) where
  -- how often e was asked for: as an opening event, and by what its source has handled
  abbrev pub due : Core E → E → ℕ
  due C e = times m e m.opening + times m e (sent m (m.src e) (C.history (m.src e)))

  -- how often e is there: handled, pending or on its way
  abbrev pub times_there : Core E → E → ℕ
  times_there C e = times_handled m C e + (times m e C.pending + messages m e C.flight)

  -- how often e is taken back: by an antimessage that is kept or on its way, or that waits to go out
  abbrev pub times_taken_back : Core E → E → ℕ
  times_taken_back C e = times m e C.kept + antimessages m e C.flight + times m e C.held

  -- the balance of e, how often it is there less how often it is taken back, is due
  abbrev pub IsBalanced : Core E → E → Type 0
  IsBalanced C e = times_there C e ≡ due C e + times_taken_back C e

  -- the part of a good state that speaks of each router by itself, where nothing loose is before t
  pub record IsGoodPart (t : ℕ) (C : Core E) : Type 0 where
    -- histories rise: each has its newest event first, and no event twice
    pub falling : (r : ℕ) → IsFalling m (C.history r)
    -- they are of events for their router
    pub home : (r : ℕ) (e : E) → 0 < times m e (C.history r) → m.dst e ≡ r
    -- and before the stop
    pub soon : (r : ℕ) (e : E) → 0 < times m e (C.history r) → m.time e < C.stop
    -- nothing loose is before t
    pub late : (e : E) → 0 < times_loose m C e → t ≤ m.time e
    -- no pending event is before one that its router has handled
    pub ahead : (e x : E) → 0 < times m e C.pending → 0 < times m x (C.history (m.dst e)) → m.before e x ≡ false
    -- what is kept is neither pending nor handled
    pub alone : (e : E) → 0 < times m e C.kept → (times m e C.pending ≡ 0) × (times_handled m C e ≡ 0)
    -- what is loose, or was so and is handled, suits its receiver
    pub suit : (e : E) → 0 < times_handled m C e + times_loose m C e → m.suits e ≡ true

  -- a good state. What routers know and which events are committed follows from their histories, so that nothing is said of it
  pub record IsGood (C : Core E) : Type 0 where
    -- each router's part, where nothing loose is before the bound
    pub part : IsGoodPart C.bound C
    pub open part use *
    -- every event is there as often as it is due, less what is taken back
    pub balance : (e : E) → IsBalanced C e
    -- no commit was beyond the bound, and the bound is not beyond the stop
    pub done : (r : ℕ) → C.done r ≤ C.bound
    pub bound : C.bound ≤ C.stop
