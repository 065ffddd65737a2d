-- What undoing the newest events of a history keeps, as long as they pass a test.
use Rattle.std.proofs.Common.{◌≡◌, ℕ, ◌+◌, ◌<◌, ◌≤◌, Bool, cond, true, false, List, [], ◌∷◌, ◌++◌, append_assoc, append-nil, refl, ap, sym, ◌∙◌, subst, inl, inr, arith}
use Rattle.std.proofs.lemmas.Bool.{cases_Bool}
use Rattle.tw_core.proofs.Calls.{moved_undoing, part_undoing, put_same, surplus_undoing}
use Rattle.tw_core.specs.Good.{IsGoodPart}
use Rattle.tw_core.specs.Machine.{Core, times_handled}
use Rattle.tw_core.specs.Parts.{PreservesPart}
use Rattle.tw_core.specs.Steps.{after_undoing, after_undoing_while, sent_back}
use Rattle.tw_sim.proofs.Counts.{in_head}
use Rattle.tw_sim.specs.declared.machine.Cancel.{Cancel}
use Rattle.tw_sim.specs.declared.machine.Signed.{Signed}
use Rattle.tw_sim.specs.Simulation.{Simulation, IsFalling, IsLawful, state, times}

module _ {S E : Type 0} (m : Simulation S E) where
  -- what is taken back at once, the newest event's sends first
  abbrev pub taken_back : Cancel → (E → Bool) → ℕ → List E → List (Signed E)
  taken_back cancel test r [] = []
  taken_back cancel test r (e ∷ older) = cond (test e) (sent_back m cancel (m.sends (state m r older) e) ++ taken_back cancel test r older) []

  -- it goes behind what is in flight, and nothing else depends on that
  pub undoing_while-flight : (test : E → Bool) (r : ℕ) (xs : List E) (C : Core E) (flight : List (Signed E))
      → after_undoing_while m test r xs (record C { flight = flight }) ≡ record (after_undoing_while m test r xs C) { flight = flight ++ taken_back C.cancel test r xs }
  undoing_while-flight test r [] C flight = ap (λ f. record C { flight = f }) (sym (append-nil flight))
  undoing_while-flight test r (e ∷ older) C flight =
      elim (cases_Bool (test e)) [
        | inl b ↦ rw b (
            let back = sent_back m C.cancel (m.sends (state m r older) e) in
            undoing_while-flight test r older (after_undoing m C r e older) (flight ++ back)
            ∙ ap (λ f. record (after_undoing_while m test r older (after_undoing m C r e older)) { flight = f }) (append_assoc flight back (taken_back C.cancel test r older)))
        | inr b ↦ rw b (ap (λ f. record C { flight = f }) (sym (append-nil flight)))
      ]

  -- what undoing some events of a router gives
  pub record IsBack (t : ℕ) (C D : Core E) : Type 0 where
    -- its part and every surplus are kept
    pub keeps : PreservesPart m t C D
    pub open keeps use *
    -- what is not handled any more is pending
    pub moved : (x : E) → times_handled m D x + times m x D.pending ≡ times_handled m C x + times m x C.pending
    pub kept : D.kept ≡ C.kept

  module _ (law : IsLawful m) where
    back_more : (t : ℕ) (A B C : Core E) → IsBack t A B → IsBack t B C → IsBack t A C
    back_more t A B C first second = grind arith

    -- undoing the newest one
    pub back_one : (t r : ℕ) (C : Core E) (e : E) (older : List E) → C.history r ≡ e ∷ older → t ≤ m.time e → IsGoodPart m t C → IsBack t C (after_undoing m C r e older)
    back_one t r C e older newest late good =
        let home : m.dst e ≡ r = good.home r e (subst (λ xs. 0 < times m e xs) (sym newest) (in_head m law e older)) in
        subst (λ q. C.history q ≡ e ∷ older → IsBack t C (after_undoing m C q e older)) home
        (λ here. record {
          keeps = grind (arith, part_undoing, surplus_undoing);
          moved = λ x. moved_undoing m law C e older here x;
          kept = refl;
        })
        newest

    back_none : (t : ℕ) (C : Core E) → IsGoodPart m t C → IsBack t C C
    back_none t C good = record { keeps = record { part = good; surplus = λ x. refl; done = refl; past = refl; bound = refl; stop = refl; cancel = refl }; moved = λ x. refl; kept = refl }

    -- undoing as many as pass a test that only later events pass
    pub back_while : (t r : ℕ) (test : E → Bool) → ((x : E) → test x ≡ true → t ≤ m.time x) → (xs : List E) (C : Core E) → C.history r ≡ xs → IsGoodPart m t C
        → IsBack t C (after_undoing_while m test r xs C)
    back_while t r test late [] C here good = back_none t C good
    back_while t r test late (e ∷ older) C here good =
        elim (cases_Bool (test e)) [
          | inl b ↦ rw b (
              let first = back_one t r C e older here (late e b) good in
              let D = after_undoing m C r e older in
              back_more t C D (after_undoing_while m test r older D) first (back_while t r test late older D (put_same C.history r older) first.part))
          | inr b ↦ rw b (back_none t C good)
        ]

    -- where what is after a passing event passes, no event that is left passes
    pub left_fails : (r : ℕ) (test : E → Bool) → ((x y : E) → m.before y x ≡ true → test y ≡ true → test x ≡ true) → (xs : List E) (C : Core E) → C.history r ≡ xs → IsFalling m xs
        → (x : E) → 0 < times m x ((after_undoing_while m test r xs C).history r) → test x ≡ false
    left_fails r test up [] C here falling x h = absurd (let k = ap (times m x) here in omega arith)
    left_fails r test up (e ∷ older) C here falling x h =
        elim (cases_Bool (test e)) [
          | inl b ↦ left_fails r test up older (after_undoing m C r e older) (put_same C.history r older) falling.1 x (rw b at h)
          | inr b ↦ grind arith
        ]
