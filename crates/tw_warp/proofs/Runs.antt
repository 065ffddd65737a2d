-- A list of steps, one step at a time.
use Rattle.std.proofs.Common.{◌≡◌, ℕ, ◌+◌, ◌<◌, List, [], ◌∷◌, ◌++◌, get_or, length, take, Result, Ok, Err, refl, ap, sym, ◌∙◌, subst, inr}
use Rattle.std.specs.Result.{result_and, result_unwrap_or}
use Rattle.std.proofs.lemmas.List.{take_more}
use Rattle.std.proofs.lemmas.Option.{slice_get-get_or}
use Rattle.tw_core.specs.declared.refusal.Refusal.{Refusal}
use Rattle.tw_core.specs.Machine.{Core}
use Rattle.tw_core.specs.Steps.{answers, next, run, step}
use Rattle.tw_sim.specs.declared.machine.Step.{Step}
use Rattle.tw_sim.specs.Simulation.{Simulation}
use Rattle.tw_warp.specs.declared.warp.RunFault.{RunFault}
use Rattle.tw_warp.specs.Runs.{IsBrokenOff}
use Rattle.tw_warp.specs.Warp.{HasSameSettings, IsInterrupted, Warp, warp_core}
use Rattle.tw_model.specs.Case.{simulation}

module _ {S E : Type 0} (m : Simulation S E) where
  run_more : (C : Core E) (xs : List Step) (x : Step) → run m C (xs ++ x ∷ []) ≡ next m (run m C xs) x
  run_more C [] x = refl
  run_more C (y ∷ xs) x = run_more (next m C y) xs x

  answers_more : (C : Core E) (xs : List Step) (x : Step) → answers m C (xs ++ x ∷ []) ≡ answers m C xs ++ result_and (step m (run m C xs) x) (Ok tt) ∷ []
  answers_more C [] x = refl
  answers_more C (y ∷ xs) x = ap (λ told. result_and (step m C y) (Ok tt) ∷ told) (answers_more (next m C y) xs x)

  -- how far a run has come after n of its steps
  pub record IsRun (steps : List Step) (n : ℕ) (C D : Core E) (told : List (Result (Unit {0}) Refusal)) : Type 0 where
    pub reached : D ≡ run m C (take n steps)
    pub told_is : told ≡ answers m C (take n steps)

  pub run_none : (steps : List Step) (C : Core E) → IsRun steps 0 C C []
  run_none steps C = record { reached = refl; told_is = refl }

  -- one more step that was done
  pub run_done : (steps : List Step) (n : ℕ) (C D B : Core E) (told : List (Result (Unit {0}) Refusal)) (d : Step) → n < length steps → IsRun steps n C D told
      → step m D (get_or steps n d) ≡ Ok B → IsRun steps (n + 1) C B (told ++ Ok tt ∷ [])
  run_done steps n C D B told d within far did =
      let x = get_or steps n d in
      let more = take_more steps n d within in
      let came : step m (run m C (take n steps)) x ≡ Ok B = ap (λ A. step m A x) (sym far.reached) ∙ did in
      record {
        reached = sym (ap (run m C) more ∙ (run_more C (take n steps) x ∙ ap (λ o. result_unwrap_or o (run m C (take n steps))) came));
        told_is = ap (λ t. t ++ Ok tt ∷ []) far.told_is ∙ sym (ap (answers m C) more ∙ (answers_more C (take n steps) x ∙ ap (λ o. answers m C (take n steps) ++ result_and o (Ok tt) ∷ []) came));
      }

  -- one more step that was refused
  pub run_refused : (steps : List Step) (n : ℕ) (C D : Core E) (told : List (Result (Unit {0}) Refusal)) (d : Step) (f : Refusal) → n < length steps → IsRun steps n C D told
      → step m D (get_or steps n d) ≡ Err f → IsRun steps (n + 1) C D (told ++ Err f ∷ [])
  run_refused steps n C D told d f within far refused =
      let x = get_or steps n d in
      let more = take_more steps n d within in
      let came : step m (run m C (take n steps)) x ≡ Err f = ap (λ A. step m A x) (sym far.reached) ∙ refused in
      record {
        reached = far.reached ∙ sym (ap (run m C) more ∙ (run_more C (take n steps) x ∙ ap (λ o. result_unwrap_or o (run m C (take n steps))) came));
        told_is = ap (λ t. t ++ Err f ∷ []) far.told_is ∙ sym (ap (answers m C) more ∙ (answers_more C (take n steps) x ∙ ap (λ o. answers m C (take n steps) ++ result_and o (Ok tt) ∷ []) came));
      }

  -- what is not refused is done
  is_done : (o : Result (Core E) Refusal) → ((f : Refusal) → o ≡ Err f → ⊥) → (B : Core E) × (o ≡ Ok B)
  is_done (Ok B) none = (B, refl)
  is_done (Err f) none = absurd (none f refl)

  -- memory was refused to the next step
  pub broken_off : (steps : List Step) (n : ℕ) (C D B : Core E) (told : List (Result (Unit {0}) Refusal)) (fault : RunFault) (d : Step) → n < length steps → IsRun steps n C D told
      → fault.step ≡ n + 1 → fault.answers.items ≡ told → ((f : Refusal) → step m D (get_or steps n d) ≡ Err f → ⊥) → IsInterrupted m (get_or steps n d) D B
      → IsBrokenOff m steps fault C B
  broken_off steps n C D B told fault d within far number same none left = record {
    count = n;
    there = within;
    step = number;
    before = same ∙ far.told_is;
    left =
        inr
        (get_or steps n d, slice_get-get_or steps n d within, subst (λ A. (B : Core E) × (step m A (get_or steps n d) ≡ Ok B)) far.reached (is_done (step m D (get_or steps n d)) none), subst (λ A. IsInterrupted m (get_or steps n d) A B) far.reached left);
  }

-- a machine that is the same as one that is the same
pub same_machine : {u v w : Warp} → HasSameSettings u v → HasSameSettings v w → HasSameSettings u w
same_machine first second = record {
  case = second.case ∙ first.case;
  workers = second.workers ∙ first.workers;
  stop = second.stop ∙ first.stop;
  cancel = second.cancel ∙ first.cancel;
}

-- ---- of the machine, whose case stays

module _ (u v w : Warp) (same : HasSameSettings u v) (steps : List Step) (n : ℕ) (told : List (Result (Unit {0}) Refusal)) (within : n < length steps)
    (far : IsRun (simulation u.case) steps n (warp_core u) (warp_core v) told) where
  pub one_done : (d : Step) → step (simulation v.case) (warp_core v) (get_or steps n d) ≡ Ok (warp_core w) → IsRun (simulation u.case) steps (n + 1) (warp_core u) (warp_core w) (told ++ Ok tt ∷ [])
  one_done d did =
      run_done (simulation u.case) steps n (warp_core u) (warp_core v) (warp_core w) told d within far (subst (λ case. step (simulation case) (warp_core v) (get_or steps n d) ≡ Ok (warp_core w)) same.case did)

  pub one_refused : (d : Step) (f : Refusal) → w ≡ v → step (simulation v.case) (warp_core v) (get_or steps n d) ≡ Err f → IsRun (simulation u.case) steps (n + 1) (warp_core u) (warp_core w) (told ++ Err f ∷ [])
  one_refused d f stays refused =
      subst (λ w. IsRun (simulation u.case) steps (n + 1) (warp_core u) (warp_core w) (told ++ Err f ∷ [])) (sym stays)
      (run_refused (simulation u.case) steps n (warp_core u) (warp_core v) told d f within far (subst (λ case. step (simulation case) (warp_core v) (get_or steps n d) ≡ Err f) same.case refused))

  pub one_cut : (d : Step) (fault : RunFault) → fault.step ≡ n + 1 → fault.answers.items ≡ told
      → ((f : Refusal) → step (simulation v.case) (warp_core v) (get_or steps n d) ≡ Err f → ⊥) → IsInterrupted (simulation v.case) (get_or steps n d) (warp_core v) (warp_core w)
      → IsBrokenOff (simulation u.case) steps fault (warp_core u) (warp_core w)
  one_cut d fault number before none left =
      broken_off (simulation u.case) steps n (warp_core u) (warp_core v) (warp_core w) told fault d within far number before
      (subst (λ case. (f : Refusal) → step (simulation case) (warp_core v) (get_or steps n d) ≡ Err f → ⊥) same.case none)
      (subst (λ case. IsInterrupted (simulation case) (get_or steps n d) (warp_core v) (warp_core w)) same.case left)
