-- What is known where a router's step was done and not refused.
use Rattle.std.proofs.Common.{arith, ◌≡◌, ℕ, ◌<◌, ◌≤◌, false, List, [], ◌∷◌, Option, Some, None, Result, Ok, inl, inr, nat_lt}
use Rattle.std.proofs.lemmas.Bool.{cases_Bool}
use Rattle.tw_core.specs.declared.refusal.Refusal.{Refusal}
use Rattle.tw_core.specs.Machine.{Core, count_ahead}
use Rattle.tw_core.specs.Steps.{after_handling, after_undoing, at_router, handle, is_newest, undo}
use Rattle.tw_sim.specs.Simulation.{Simulation, state}

module _ {S E : Type 0} (m : Simulation S E) where
  -- r has handled this event
  pub record HasHandled (C D : Core E) (r : ℕ) (first : Option E) : Type 0 where
    pub event : E
    pub found : first ≡ Some event
    pub soon : m.time event < C.stop
    pub new : is_newest m event (C.history r) ≡ false
    pub room : count_ahead C r < C.room r
    pub counters : m.full (state m r (C.history r)) event ≡ false
    pub made : after_handling m C r event ≡ D

  -- where handling was not refused
  pub handle_done : (C D : Core E) (r : ℕ) (first : Option E) → handle m C r first ≡ Ok D → HasHandled C D r first
  handle_done C D r None h = cc
  handle_done C D r (Some e) h = grind arith

  -- r has undone this event
  pub record HasUndone (C D : Core E) (r : ℕ) (history : List E) : Type 0 where
    pub event : E
    pub older : List E
    pub newest : history ≡ event ∷ older
    pub uncommitted : C.done r ≤ m.time event
    pub late : C.bound ≤ m.time event
    pub made : after_undoing m C r event older ≡ D

  -- where undoing was not refused
  pub undo_done : (C D : Core E) (r : ℕ) (history : List E) → undo m C r history ≡ Ok D → HasUndone C D r history
  undo_done C D r [] h = cc
  undo_done C D r (e ∷ older) h = grind arith

  -- the router is there
  pub at_router_done : (r : ℕ) (outcome : Result (Core E) Refusal) (D : Core E) → at_router m r outcome ≡ Ok D → outcome ≡ Ok D
  at_router_done r outcome D h = elim (cases_Bool (nat_lt r m.routers)) [ inl b ↦ rw b at h | inr b ↦ (let k = rw b at h in cc) ]
