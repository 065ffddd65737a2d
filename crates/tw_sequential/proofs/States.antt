-- The states of processes, when one of them handles an event.
use Rattle.std.proofs.Common.{◌≡◌, ℕ, zero, suc, ◌<◌, ◌⊎◌, List, [], ◌∷◌, ◌++◌, Some, length, length-set, set, slice_get, refl, ap, sym, ◌∙◌, subst, inl, inr, arith}
use Rattle.std.proofs.lemmas.Bool.{eq-eqb, ne_eqb}
use Rattle.tw_sequential.specs.States.{AreStates}
use Rattle.tw_sim.specs.Simulation.{Simulation, only, state}

module _ {T : Type 0} where
  -- what stands in a list with one more
  pub get_push : (xs : List T) (x : T) (r : ℕ) (s : T) → slice_get (xs ++ x ∷ []) r ≡ Some s → (slice_get xs r ≡ Some s) ⊎ ((r ≡ length xs) × (s ≡ x))
  get_push [] x zero s h = inr (refl, cc)
  get_push [] x (suc r) s h = absurd (cc)
  get_push (y ∷ ys) x zero s h = inl h
  get_push (y ∷ ys) x (suc r) s h = elim (get_push ys x r s h) [ inl k ↦ inl k | inr k ↦ inr (omega (arith, k.0), k.1) ]

  -- what stands in a list where one was put in another's place
  pub get_set : (xs : List T) (i r : ℕ) (x s : T) → slice_get (set xs i x) r ≡ Some s → ((r ≡ i) × (s ≡ x)) ⊎ ((r ≡ i → ⊥) × (slice_get xs r ≡ Some s))
  get_set [] i r x s h = absurd (cc)
  get_set (y ∷ ys) zero zero x s h = inl (refl, cc)
  get_set (y ∷ ys) zero (suc r) x s h = inr ((λ e. omega (arith, e)), h)
  get_set (y ∷ ys) (suc i) zero x s h = inr ((λ e. omega (arith, e)), h)
  get_set (y ∷ ys) (suc i) (suc r) x s h =
      elim (get_set ys i r x s h) [ inl k ↦ inl (omega (arith, k.0), k.1) | inr k ↦ inr ((λ e. k.0 (omega (arith, e))), k.1) ]

  -- within a list something stands
  pub there : (xs : List T) (r : ℕ) → r < length xs → (s : T) × (slice_get xs r ≡ Some s)
  there [] r h = absurd (omega arith)
  there (y ∷ ys) zero h = (y, refl)
  there (y ∷ ys) (suc r) h = there ys r (omega arith)

module _ {T S E : Type 0} (m : Simulation S E) (is_state : ℕ → T → Type 0) (known : T → S) where
  state_own : (log : List E) (e : E) (r : ℕ) → m.dst e ≡ r → state m r (only m r (e ∷ log)) ≡ m.after (state m r (only m r log)) e
  state_own log e r h = rw (eq-eqb (m.dst e) r h) refl

  state_other : (log : List E) (e : E) (r : ℕ) → (m.dst e ≡ r → ⊥) → state m r (only m r (e ∷ log)) ≡ state m r (only m r log)
  state_other log e r h = rw (ne_eqb (m.dst e) r h) refl

  module _ (log : List E) (states : List T) (are : AreStates m is_state known log states) (r : ℕ) (before after : T) (there : slice_get states r ≡ Some before) (own : is_state r after) where
    -- its receiver has handled one event more
    pub states_next : (e : E) → m.dst e ≡ r → known after ≡ m.after (known before) e → AreStates m is_state known (e ∷ log) (set states r after)
    states_next e home is = record {
      count = length-set states r after ∙ are.count;
      each = λ q s h. elim (get_set states r q after s h) [
        | inl k ↦ (
            let old = (are.each r before there).1 in
            let new : known after ≡ state m r (only m r (e ∷ log)) = is ∙ (ap (λ x. m.after x e) old ∙ sym (state_own log e r home)) in
            subst (λ p. is_state p s × (known s ≡ state m p (only m p (e ∷ log)))) (sym k.0)
            (subst (λ x. is_state r x × (known x ≡ state m r (only m r (e ∷ log)))) (sym k.1) (own, new)))
        | inr k ↦ (let old = are.each q s k.1 in (old.0, old.1 ∙ sym (state_other log e q (λ is_q. k.0 (sym is_q ∙ home)))))
      ];
    }

    -- or it is as it was
    pub states_same : known after ≡ known before → AreStates m is_state known log (set states r after)
    states_same is = record {
      count = length-set states r after ∙ are.count;
      each = λ q s h. elim (get_set states r q after s h) [
        | inl k ↦ (
            let old = (are.each r before there).1 in
            subst (λ p. is_state p s × (known s ≡ state m p (only m p log))) (sym k.0)
            (subst (λ x. is_state r x × (known x ≡ state m r (only m r log))) (sym k.1) (own, is ∙ old)))
        | inr k ↦ are.each q s k.1
      ];
    }
