-- A walk over a list, one element at a time.
use Rattle.std.proofs.Common.{◌≡◌, ℕ, zero, suc, ◌+◌, ◌<◌, List, [], ◌∷◌, ◌++◌, get_or, length, slice_get, take, Some, None, refl, ap, sym, ◌∙◌, subst, inl, inr, arith}
use Rattle.std.proofs.lemmas.Bool.{cases_eq}
use Rattle.std.proofs.Math.ListN.{get_or-append}
use Rattle.std.proofs.Math.Seq.{get_or-append_seam}

-- what holds at each place holds with one more element
pub one_more : {A : Type 0} (P : ℕ → A → Type 0) (xs : List A) (x d : A) (n : ℕ) → length xs ≡ n → ((k : ℕ) → k < n → P k (get_or xs k d)) → P n x
    → (k : ℕ) → k < n + 1 → P k (get_or (xs ++ x ∷ []) k d)
one_more P xs x d n long each last k within =
    elim (cases_eq k n) [
      | inl here ↦ (let end : get_or (xs ++ x ∷ []) k d ≡ x = ap (λ j. get_or (xs ++ x ∷ []) j d) (here ∙ sym long) ∙ get_or-append_seam xs x [] d in
          subst (P k) (sym end) (subst (λ j. P j x) (sym here) last))
      | inr other ↦ subst (P k) (sym (get_or-append xs (x ∷ []) d k (grind arith))) (each k (grind arith))
    ]

-- ---- one more element is taken, or there is none

next_taken : {A : Type 0} (xs : List A) (k : ℕ) (x : A) → slice_get xs k ≡ Some x → take (suc k) xs ≡ take k xs ++ x ∷ []
next_taken [] k x got = cc got
next_taken (y ∷ xs) zero x got = let same : y ≡ x = cc got in ap (λ z. z ∷ []) same
next_taken (y ∷ xs) (suc k) x got = ap (λ zs. y ∷ zs) (next_taken xs k x got)

none_taken : {A : Type 0} (xs : List A) (k : ℕ) → slice_get xs k ≡ None → take (suc k) xs ≡ take k xs
none_taken [] zero none = refl
none_taken [] (suc k) none = refl
none_taken (y ∷ xs) zero none = cc none
none_taken (y ∷ xs) (suc k) none = ap (λ zs. y ∷ zs) (none_taken xs k none)

pub take_next : {A : Type 0} (xs : List A) (k : ℕ) (x : A) → slice_get xs k ≡ Some x → take (k + 1) xs ≡ take k xs ++ x ∷ []
take_next xs k x got = let more : k + 1 ≡ suc k = omega arith in ap (λ n. take n xs) more ∙ next_taken xs k x got

pub take_past : {A : Type 0} (xs : List A) (k : ℕ) → slice_get xs k ≡ None → take (k + 1) xs ≡ take k xs
take_past xs k none = let more : k + 1 ≡ suc k = omega arith in ap (λ n. take n xs) more ∙ none_taken xs k none
