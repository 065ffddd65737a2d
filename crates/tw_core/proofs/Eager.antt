-- A machine that takes back at once what undone events had sent never holds anything.
use Rattle.std.proofs.Common.{arith, ◌≡◌, ℕ, zero, suc, Bool, true, false, not, List, [], ◌∷◌, Option, None, Some, Result, Ok, Err, remove, slice_get, refl, subst, inl, inr, nat_lt}
use Rattle.std.proofs.lemmas.Bool.{cases_Bool}
use Rattle.std.specs.Result.{result_unwrap_or}
use Rattle.tw_core.proofs.Done.{at_router_done}
use Rattle.tw_core.specs.declared.refusal.Refusal.{Refusal}
use Rattle.tw_core.specs.Machine.{Core}
use Rattle.tw_core.specs.Steps.{after_arrival, after_delivery, after_undoing, after_undoing_while, deliver, first_pending, handle, next, run, step, undo}
use Rattle.tw_sim.specs.declared.machine.Cancel.TheVariants.{Aggressive}
use Rattle.tw_sim.specs.declared.machine.Signed.{Signed}
use Rattle.tw_sim.specs.declared.machine.Step.{Step}
use Rattle.tw_sim.specs.declared.machine.Step.TheVariants.{Handle, Undo, Deliver, Bound, Commit, Release}
use Rattle.tw_sim.specs.Simulation.{Simulation}

module _ {S E : Type 0} (m : Simulation S E) where
  -- the machine takes back in the same way as before, and where that is at once and nothing was held, nothing is
  pub record IsAsEager (C D : Core E) : Type 0 where
    pub cancel : D.cancel ≡ C.cancel
    pub held : C.cancel ≡ Aggressive → C.held ≡ [] → D.held ≡ []

  same : (C : Core E) → IsAsEager C C
  same C = record { cancel = refl; held = λ eager none. none }

  both : (A B C : Core E) → IsAsEager A B → IsAsEager B C → IsAsEager A C
  both A B C first second = grind arith

  undoing : (C : Core E) (r : ℕ) (e : E) (older : List E) → IsAsEager C (after_undoing m C r e older)
  undoing C r e older = grind arith

  undoing_while : (test : E → Bool) (r : ℕ) (xs : List E) (C : Core E) → IsAsEager C (after_undoing_while m test r xs C)
  undoing_while test r [] C = same C
  undoing_while test r (e ∷ older) C =
      let D = after_undoing m C r e older in
      elim (cases_Bool (test e)) [
        | inl b ↦ rw b (both C D (after_undoing_while m test r older D) (undoing C r e older) (undoing_while test r older D))
        | inr b ↦ rw b (same C)
      ]

  -- whatever arrives
  arrival : (C : Core E) (plus : Bool) (e : E) → IsAsEager C (after_arrival m C (record { plus = plus; event = e }))
  arrival C true e = grind (arith, undoing_while, cases_Bool, nat_lt)
  arrival C false e = grind (arith, undoing_while, not, cases_Bool, nat_lt)

  delivery : (C D : Core E) (k : ℕ) (o : Option (Signed E)) → deliver m C k o ≡ Ok D → IsAsEager C D
  delivery C D k None h = cc
  delivery C D k (Some x) h =
      let made : after_delivery m C k x ≡ D = cc in
      let arrived = arrival (record C { flight = remove C.flight k }) x.plus x.event in
      subst (IsAsEager C) made (record { cancel = arrived.cancel; held = arrived.held })

  handling : (C D : Core E) (r : ℕ) → handle m C r (first_pending m C r) ≡ Ok D → IsAsEager C D
  handling C D r h = grind arith

  undone : (C D : Core E) (r : ℕ) → undo m C r (C.history r) ≡ Ok D → IsAsEager C D
  undone C D r h = grind arith

  step_eager : (C D : Core E) (x : Step) → step m C x ≡ Ok D → IsAsEager C D
  step_eager C D (Handle r) h = handling C D r (at_router_done m r (handle m C r (first_pending m C r)) D h)
  step_eager C D (Undo r) h = undone C D r (at_router_done m r (undo m C r (C.history r)) D h)
  step_eager C D (Deliver zero) h = cc
  step_eager C D (Deliver (suc k)) h = delivery C D k (slice_get C.flight k) h
  step_eager C D Bound h = grind arith
  step_eager C D (Commit r) h = grind arith
  step_eager C D (Release r) h = grind arith

  next_at : (C : Core E) (o : Result (Core E) Refusal) → ((D : Core E) → o ≡ Ok D → IsAsEager C D) → IsAsEager C (result_unwrap_or o C)
  next_at C (Ok D) done = done D refl
  next_at C (Err refusal) done = same C

  -- after every list of steps
  pub run_eager : (C : Core E) (xs : List Step) → IsAsEager C (run m C xs)
  run_eager C [] = same C
  run_eager C (x ∷ xs) =
      both C (next m C x) (run m C (x ∷ xs)) (next_at C (step m C x) (λ D h. step_eager C D x h)) (run_eager (next m C x) xs)
