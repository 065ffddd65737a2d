-- What a process has committed, by the sequential run's turns and a list.
use Rattle.std.proofs.Common.{◌≡◌, ℕ, ◌<◌, ◌≤◌, List, [], ◌∷◌, ◌++◌, append_assoc, length, reverse, refl, ap, sym, ◌∙◌, subst, arith}
use Rattle.std.proofs.lemmas.List.{length-map, length-reverse}
use Rattle.tw_core.proofs.Cuts.{run_to_zero}
use Rattle.tw_core.proofs.Sums.{all_map}
use Rattle.tw_engine.specs.Past.{IsPast, committed_after, events_of, log_after}
use Rattle.tw_engine.specs.declared.past.Done.{Done}
use Rattle.tw_engine.proofs.Commits.{past_events}
use Rattle.tw_sim.specs.Simulation.{Simulation, IsLawful, only, state}

-- where none can be undone there is no step
pub no_steps : {E N : Type 0} (steps : List (Done E N)) → events_of (reverse steps) ≡ [] → steps ≡ []
no_steps [] none = refl
no_steps (d ∷ steps) none =
    let all = ap length none in
    let a = length-map (reverse (d ∷ steps)) (λ d. d.event) in
    let b = length-reverse (d ∷ steps) in
    absurd (omega arith)

module _ {S E : Type 0} (m : Simulation S E) (r since count : ℕ) where
  -- nothing stands in the list
  pub committed_here : (later : List E) → later ≡ [] → committed_after m r since count later ≡ only m r (log_after m since count)
  committed_here later none = ap (λ l. committed_after m r since count l) none

  -- more stands there
  pub committed_more : {N : Type 0} (later new : List E) (steps : List (Done E N)) → new ≡ later ++ events_of steps
      → committed_after m r since count new ≡ events_of (reverse steps) ++ committed_after m r since count later
  committed_more later new steps is =
      let base = only m r (log_after m since count) in
      ap (λ l. reverse l ++ base) is ∙ (ap (λ l. l ++ base) (past_events later steps) ∙ append_assoc (events_of (reverse steps)) (reverse later) base)

-- before the first turn nothing is committed
pub committed_none : {S E : Type 0} (m : Simulation S E) → IsLawful m → (r : ℕ) (later : List E) → later ≡ [] → committed_after m r 0 0 later ≡ []
committed_none m law r later none = committed_here m r 0 0 later none ∙ ap (λ w. only m r w.log) (run_to_zero m law)

module _ {S E N : Type 0} (m : Simulation S E) (latest : ℕ) (is_note : S → E → N → Type 0) (r : ℕ) (past : List E) (knows : S) (done : ℕ) (steps : List (Done E N))
    (none : steps ≡ []) (h : IsPast m latest is_note r past knows done steps) where
  -- a process that can undo nothing knows what it has committed
  pub knows_past : knows ≡ state m r past
  knows_past = h.known ∙ ap (λ l. state m r (events_of (reverse l) ++ past)) none

  -- it handles an event, and commits it at once
  pub past_in_turn : (after : S) (e : E) (left : List E) (later : ℕ) → after ≡ m.after knows e → left ≡ e ∷ past → done ≤ later → m.time e < later → IsPast m latest is_note r left after later steps
  past_in_turn after e left later goes more le soon =
      subst (IsPast m latest is_note r left after later) (sym none)
      (subst (λ l. IsPast m latest is_note r l after later []) (sym more) (record {
        here = h.here;
        known = goes ∙ ap (λ k. m.after k e) knows_past;
        noted = tt;
        early = (soon, all_map (λ (x : E). m.time x < done) (λ (x : E). m.time x < later) (λ x early. omega arith) past h.early);
      }))
