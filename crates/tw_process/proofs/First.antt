-- What stands in the list of a function's first values, and how often.
use Rattle.std.proofs.Common.{◌≡◌, ℕ, zero, suc, ◌+◌, ◌<◌, ◌≤◌, [], ◌∷◌, ◌++◌, true, ap, sym, ◌∙◌, subst, inl, inr, arith, add-one}
use Rattle.std.proofs.lemmas.List.FromFn.{map-range_with_len_more}
use Rattle.std.proofs.lemmas.Bool.{cases_Bool}
use Rattle.tw_process.specs.First.{first}
use Rattle.tw_sim.specs.Simulation.{Simulation, times}
use Rattle.tw_sim.proofs.Counts.{none, times-append}
use Rattle.tw_sim.proofs.Members.{In, in_append, in_times}

module _ {E : Type 0} (f : ℕ → E) where
  -- one more, as a loop counts them
  pub first-more : (n : ℕ) → first f (n + 1) ≡ first f n ++ f n ∷ []
  first-more n = map-range_with_len_more f 0 n n (omega arith)

  -- one more
  more : (n : ℕ) → first f (suc n) ≡ first f n ++ f n ∷ []
  more n = rw add-one at (first-more n)

  -- what stands there is one of the values
  pub in_first : (n : ℕ) (x : E) → In x (first f n) → (i : ℕ) × (i < n) × (x ≡ f i)
  in_first zero x h = absurd h
  in_first (suc n) x h =
      elim (in_append x (first f n) (f n ∷ []) (subst (λ xs. In x xs) (more n) h)) [
        | inl k ↦ (let r = in_first n x k in (r.0, omega arith, r.2))
        | inr k ↦ elim k [ inl e ↦ (n, omega arith, e) | inr nothing ↦ absurd nothing ]
      ]

module _ {S E : Type 0} (m : Simulation S E) (same_is : (x y : E) → m.same x y ≡ true → x ≡ y) (f : ℕ → E) where
  -- values that differ stand there once
  pub first_once : (n : ℕ) → ((i j : ℕ) → i < n → j < n → f i ≡ f j → i ≡ j) → (x : E) → times m x (first f n) ≤ 1
  first_once zero apart x = omega arith
  first_once (suc n) apart x =
      let h = first_once n (λ i j a b e. apart i j (omega arith) (omega arith) e) x in
      let all : times m x (first f (suc n)) ≡ times m x (first f n) + times m x (f n ∷ []) = ap (λ xs. times m x xs) (more f n) ∙ times-append m x (first f n) (f n ∷ []) in
      elim (cases_Bool (m.same x (f n))) [
        | inl b ↦ (
            let before : times m x (first f n) ≡ 0 = none _ (λ more.
            let at = in_first f n x (in_times m same_is x (first f n) more) in
            let same : at.0 ≡ n = apart at.0 n (omega (arith, at.1)) (omega arith) (sym at.2 ∙ same_is x (f n) b) in
            omega (arith, at.1)) in
            let last = rw b at all in
            omega arith)
        | inr b ↦ (let last = rw b at all in omega arith)
      ]
