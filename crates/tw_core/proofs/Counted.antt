-- What is counted as committed is what is committed.
use Rattle.std.proofs.Common.{◌≡◌, ℕ, zero, suc, ◌+◌, Bool, List, [], ◌∷◌, ◌++◌, length, reverse, Result, Ok, Err, refl, ap, sym, ◌∙◌, inl, inr, arith, nat_lt}
use Rattle.std.proofs.lemmas.Bool.{cases_Bool, cases_eq, eq-eqb, ltb-true}
use Rattle.std.proofs.lemmas.List.{length-reverse, reverse-append}
use Rattle.std.proofs.lemmas.List.Folds.{prefix_len-append}
use Rattle.std.specs.List.{prefix_len, suffix_len}
use Rattle.std.specs.Result.{result_unwrap_or}
use Rattle.tw_core.proofs.Calls.{put_other, put_same}
use Rattle.tw_core.proofs.Done.{at_router_done}
use Rattle.tw_core.proofs.Headline.{good_log}
use Rattle.tw_core.proofs.Steps.{StepKeeps, deliver_keeps, good_opening, handle_keeps, next_keeps, step_keeps}
use Rattle.tw_core.specs.declared.refusal.Refusal.{Refusal}
use Rattle.tw_core.specs.Good.{IsGood}
use Rattle.tw_core.specs.Machine.{AreCounted, Core, IsOpening}
use Rattle.tw_core.specs.Steps.{first_pending, handle, next, run, step, with_commit}
use Rattle.tw_sim.proofs.Unique.{all_below}
use Rattle.tw_sim.specs.declared.machine.Step.{Step}
use Rattle.tw_sim.specs.declared.machine.Step.TheVariants.{Handle, Undo, Deliver, Bound, Commit, Release}
use Rattle.tw_sim.specs.Simulation.{Simulation, IsFalling, IsLawful, IsNumbered, below}

module _ {S E : Type 0} (m : Simulation S E) where
  -- nothing is counted where nothing is handled
  pub opening_counted : (C : Core E) → IsOpening m C → AreCounted m C
  opening_counted C opens r = opens.past r ∙ ap (λ h. length (below m (C.done r) h)) (sym (opens.history r))

module _ {S E : Type 0} (m : Simulation S E) (law : IsLawful m) where
  -- in a history that rises, the oldest events as far as all are before a time are all that are before it
  oldest : (t : ℕ) (xs : List E) → IsFalling m xs → suffix_len (λ e. nat_lt (m.time e) t) xs ≡ length (below m t xs)
  oldest t [] falling = refl
  oldest t (x ∷ xs) falling =
      let soon : E → Bool = λ e. nat_lt (m.time e) t in
      let turned : suffix_len soon (x ∷ xs) ≡ prefix_len soon (reverse xs ++ x ∷ []) = ap (prefix_len soon) (reverse-append (x ∷ []) xs) in
      let more : prefix_len soon (reverse xs) ≡ length (below m t xs) = oldest t xs falling.1 in
      let whole = prefix_len-append soon (reverse xs) (x ∷ []) in
      let long = length-reverse xs in
      elim (cases_Bool (nat_lt (m.time x) t)) [
        | inl b ↦ (
            let all = all_below m law t xs (λ e h. let order = law.timely e x (falling.0 e h) in let before = ltb-true (m.time x) t b in omega arith) in
            let same : length (below m t xs) ≡ length xs = ap length all in
            let last : prefix_len soon (x ∷ []) ≡ 1 = rw b refl in
            let here = rw (eq-eqb (prefix_len soon (reverse xs)) (length (reverse xs)) (omega arith)) at whole in
            let size : length (below m t (x ∷ xs)) ≡ suc (length (below m t xs)) = rw b refl in
            omega arith)
        | inr b ↦ grind arith
      ]

  -- a commit counts what it commits
  pub commit_counted : (C : Core E) (r : ℕ) → IsFalling m (C.history r) → AreCounted m C → AreCounted m (with_commit m C r)
  commit_counted C r falling counted q = grind (arith, nat_lt, cases_eq, put_same, oldest, put_other)

  module _ (numbered : IsNumbered m) where
    -- where no router commits, what is committed stays
    uncommitting : (C D : Core E) → IsGood m C → StepKeeps m law C D → D.done ≡ C.done → D.past ≡ C.past → AreCounted m C → AreCounted m D
    uncommitting C D good keeps done past counted r = grind (arith, good_log)

    pub step_counted : (C D : Core E) (x : Step) → IsGood m C → step m C x ≡ Ok D → AreCounted m C → AreCounted m D
    step_counted C D (Handle r) good h counted =
        let kept = handle_keeps m law C.bound C D r good.part (at_router_done m r (handle m C r (first_pending m C r)) D h) in
        uncommitting C D good (step_keeps m law C D (Handle r) good h) kept.done kept.past counted
    step_counted C D (Undo r) good h counted = grind arith
    step_counted C D (Deliver zero) good h counted = cc
    step_counted C D (Deliver (suc k)) good h counted =
        let kept = deliver_keeps m law C.bound C D k good.part h in
        uncommitting C D good (step_keeps m law C D (Deliver (suc k)) good h) kept.done kept.past counted
    step_counted C D Bound good h counted = grind arith
    step_counted C D (Commit r) good h counted = grind (arith, at_router_done, commit_counted)
    step_counted C D (Release r) good h counted = grind arith

    next_at : (C : Core E) (o : Result (Core E) Refusal) → AreCounted m C → ((D : Core E) → o ≡ Ok D → AreCounted m D) → AreCounted m (result_unwrap_or o C)
    next_at C (Ok D) counted done = done D refl
    next_at C (Err refusal) counted done = counted

    pub next_counted : (C : Core E) (x : Step) → IsGood m C → AreCounted m C → AreCounted m (next m C x)
    next_counted C x good counted = next_at C (step m C x) counted (λ D h. step_counted C D x good h counted)

    pub run_counted : (C : Core E) (xs : List Step) → IsGood m C → AreCounted m C → AreCounted m (run m C xs)
    run_counted C [] good counted = counted
    run_counted C (x ∷ xs) good counted =
        run_counted (next m C x) xs (next_keeps m law C x good).good (next_counted C x good counted)

    -- from the opening on
    pub always_counted : (C : Core E) → IsOpening m C → (xs : List Step) → AreCounted m (run m C xs)
    always_counted C opens xs =
        run_counted C xs (good_opening m law C opens) (opening_counted m C opens)
