-- The routers below a number for which a test holds, in rising order.
use Rattle.std.proofs.Common.{◌≡◌, ℕ, zero, suc, ◌+◌, ◌<◌, ◌≤◌, ◌++◌, ◌∷◌, ◌&&◌, [], Bool, true, false, List, filter, if◌then◌else◌, nat_lt, refl, ap, sym, ◌∙◌, subst, inl, inr, arith}
use Rattle.std.specs.List.{range_with_len}
use Rattle.std.proofs.lemmas.Bool.{cases_Bool, cases_eq, false≢true, ltb-false, ltb-true}
use Rattle.std.proofs.lemmas.List.Elements.{filter-append}
use Rattle.std.proofs.lemmas.List.{append-nil}
use Rattle.tw_instance.proofs.Lists.{range_push}
use Rattle.tw_shard.specs.Roster.{StandsInList, has}
use Rattle.tw_shard.proofs.Rosters.{has_at, stands_not}

module _ (own : ℕ → Bool) where
  abbrev pub own_from : ℕ → ℕ → List ℕ
  own_from a n = filter own (range_with_len a n)

  range_bound : (a n k r : ℕ) → StandsInList (own_from a n) k r → (a ≤ r) × (r < a + n)
  range_bound a zero k r at = let within = at.within in absurd (omega arith)
  range_bound a (suc n) k r at =
      elim (cases_Bool (own a)) [
        | inl mine ↦ (let one : own_from a (suc n) ≡ a ∷ own_from (a + 1) n = rw mine refl in first (range_bound (a + 1) n) k (subst (λ rs. StandsInList rs k r) one at))
        | inr other ↦ (let none : own_from a (suc n) ≡ own_from (a + 1) n = rw other refl in later (range_bound (a + 1) n) k (subst (λ rs. StandsInList rs k r) none at))
      ]
    where
      Bound : Type 0
      Bound = (k r : ℕ) → StandsInList (own_from (a + 1) n) k r → (a + 1 ≤ r) × (r < a + 1 + n)

      later : Bound → (k : ℕ) → StandsInList (own_from (a + 1) n) k r → (a ≤ r) × (r < a + suc n)
      later bound k at = let more = bound k r at in (let low = more.0 in omega arith, let high = more.1 in omega arith)

      first : Bound → (k : ℕ) → StandsInList (a ∷ own_from (a + 1) n) k r → (a ≤ r) × (r < a + suc n)
      first bound zero at = let is : a ≡ r = at.is in (omega arith, omega arith)
      first bound (suc k) at = later bound k (record { within = (let within = at.within in omega arith); is = at.is })

  -- a number past them is none of them
  pub fresh : (n : ℕ) → has (own_from 0 n) n ≡ false
  fresh n = stands_not (own_from 0 n) n (λ k at. let bound = (range_bound 0 n k n at).1 in omega arith)

  -- one number more
  pub next_own : (n : ℕ) → own_from 0 (n + 1) ≡ (if own n then own_from 0 n ++ n ∷ [] else own_from 0 n)
  next_own n =
      let more : n + 1 ≡ suc n = omega arith in
      let last : 0 + n ≡ n = omega arith in
      let parts : own_from 0 (n + 1) ≡ own_from 0 n ++ filter own (n ∷ []) =
      ap (own_from 0) more ∙ (ap (filter own) (range_push n 0 ∙ ap (λ m. range_with_len 0 n ++ m ∷ []) last) ∙ filter-append own (range_with_len 0 n) (n ∷ [])) in
      elim (cases_Bool (own n)) [
        | inl mine ↦ rw mine (rw mine at parts)
        | inr other ↦ rw other ((rw other at parts) ∙ append-nil (own_from 0 n))
      ]

  -- each of them passes the test, and each that passes it is one of them
  passing : (a n k r : ℕ) → StandsInList (own_from a n) k r → own r ≡ true
  passing a zero k r at = let within = at.within in absurd (omega arith)
  passing a (suc n) k r at =
      elim (cases_Bool (own a)) [
        | inl mine ↦ (let one : own_from a (suc n) ≡ a ∷ own_from (a + 1) n = rw mine refl in first mine (passing (a + 1) n) k (subst (λ rs. StandsInList rs k r) one at))
        | inr other ↦ (let none : own_from a (suc n) ≡ own_from (a + 1) n = rw other refl in passing (a + 1) n k r (subst (λ rs. StandsInList rs k r) none at))
      ]
    where
      first : own a ≡ true → ((k r : ℕ) → StandsInList (own_from (a + 1) n) k r → own r ≡ true) → (k : ℕ) → StandsInList (a ∷ own_from (a + 1) n) k r → own r ≡ true
      first mine later zero at = let is : a ≡ r = at.is in ap own (sym is) ∙ mine
      first mine later (suc k) at = later k r (record { within = (let within = at.within in omega arith); is = at.is })

  found : (a n r : ℕ) → a ≤ r → r < a + n → own r ≡ true → (k : ℕ) × StandsInList (own_from a n) k r
  found a zero r low high mine = absurd (omega arith)
  found a (suc n) r low high mine =
      elim (cases_eq r a) [
        | inl here ↦ (let one : own_from a (suc n) ≡ a ∷ own_from (a + 1) n = (let yours : own a ≡ true = ap own (sym here) ∙ mine in rw yours refl) in
            (0, subst (λ rs. StandsInList rs 0 r) (sym one) (record { within = omega arith; is = sym here })))
        | inr apart ↦ (let later = found (a + 1) n r (omega arith) (omega arith) mine in elim (cases_Bool (own a)) [
          | inl yours ↦ (let one : own_from a (suc n) ≡ a ∷ own_from (a + 1) n = rw yours refl in
              (suc later.0, subst (λ rs. StandsInList rs (suc later.0) r) (sym one) (record { within = (let within = later.1.within in omega arith); is = later.1.is })))
          | inr other ↦ (let none : own_from a (suc n) ≡ own_from (a + 1) n = rw other refl in (later.0, subst (λ rs. StandsInList rs later.0 r) (sym none) later.1))
        ])
      ]

  pub has_own : (n r : ℕ) → has (own_from 0 n) r ≡ (nat_lt r n && own r)
  has_own n r =
      elim (cases_Bool (nat_lt r n)) [
        | inl within ↦ elim (cases_Bool (own r)) [
          | inl mine ↦ (let at = found 0 n r (omega arith) (let low = ltb-true r n within in omega arith) mine in
              has_at (own_from 0 n) at.0 r at.1 ∙ sym (ap (λ b. b && own r) within ∙ mine))
          | inr other ↦ stands_not (own_from 0 n) r (λ k at. false≢true (sym other ∙ passing 0 n k r at)) ∙ sym (ap (λ b. b && own r) within ∙ other)
        ]
        | inr past ↦ stands_not (own_from 0 n) r (λ k at. (let bound = (range_bound 0 n k r at).1 in let high = ltb-false r n past in omega arith))
            ∙ sym (ap (λ b. b && own r) past)
      ]
