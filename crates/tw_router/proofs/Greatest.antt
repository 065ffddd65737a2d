-- The greatest of some numbers, one of which changes.
use Rattle.std.proofs.Common.{◌≡◌, ℕ, zero, suc, ◌<◌, ◌≤◌, ◌==◌, ◌&&◌, false, true≢false, inl, inr, nat_lt, List, [], ◌∷◌, fold, get_or, length, max, replicate, set, refl, ap, sym, ◌∙◌, arith}
use Rattle.std.proofs.lemmas.Bool.{cases_eq, cases_lt, eq-eqb, lt-ltb}
use Rattle.std.proofs.lemmas.List.{set-get_or}

-- a number above those that follow
max_out : (a c : ℕ) (xs : List ℕ) → fold max (max a c) xs ≡ max c (fold max a xs)
max_out a c [] = omega arith
max_out a c (x ∷ xs) =
    let same : max (max a c) x ≡ max (max a x) c = omega arith in
    ap (λ n. fold max n xs) same ∙ max_out (max a x) c xs

-- one number, and the greatest of the others
max_at : (a : ℕ) (xs : List ℕ) (k n : ℕ) → k < length xs → fold max a (set xs k n) ≡ max n (fold max a (set xs k 0))
max_at a [] k n h = absurd (omega arith)
max_at a (x ∷ xs) zero n h =
    let same : max a 0 ≡ a = omega arith in
    max_out a n xs ∙ ap (λ m. max n (fold max m xs)) (sym same)
max_at a (x ∷ xs) (suc k) n h = max_at (max a x) xs k n (omega arith)

module _ (xs : List ℕ) (k before greatest : ℕ) (below : k < length xs) (is : greatest ≡ fold max 0 (set xs k before)) where
  all : fold max 0 xs ≡ max (get_or xs k 0) (fold max 0 (set xs k 0))
  all = ap (fold max 0) (sym (set-get_or xs k 0)) ∙ max_at 0 xs k (get_or xs k 0) below

  known : greatest ≡ max before (fold max 0 (set xs k 0))
  known = is ∙ max_at 0 xs k before below

  -- a number that is not below the greatest is the greatest
  risen : greatest ≤ get_or xs k 0 → get_or xs k 0 ≡ fold max 0 xs
  risen up = let a = all in let b = known in omega arith

  -- a number below the greatest, which was another one
  same_greatest : get_or xs k 0 < greatest → (before ≡ greatest → ⊥) → greatest ≡ fold max 0 xs
  same_greatest low other = let a = all in let b = known in omega arith

  -- the greater of a number and the greatest before, where that was another one or is still below the number
  pub kept_greatest : (before == greatest && nat_lt (get_or xs k 0) greatest) ≡ false → max (get_or xs k 0) greatest ≡ fold max 0 xs
  kept_greatest stays = elim (cases_lt (get_or xs k 0) greatest) [
    | inl low ↦ elim (cases_eq before greatest) [
      | inl same ↦ absurd (true≢false (sym (ap (λ b. b && nat_lt (get_or xs k 0) greatest) (eq-eqb before greatest same) ∙ lt-ltb (get_or xs k 0) greatest low) ∙ stays))
      | inr other ↦ (let e = same_greatest low other in omega arith)
    ]
    | inr up ↦ (let e = risen up in omega arith)
  ]

-- of zeros alone
pub of_zeros : (n : ℕ) → 0 ≡ fold max 0 (replicate n 0)
of_zeros zero = refl
of_zeros (suc n) = of_zeros n

-- a number that is changed and then written as it was
pub written_back : (xs : List ℕ) (k n before : ℕ) → before ≡ get_or xs k before → set (set xs k n) k before ≡ xs
written_back [] k n before e = refl
written_back (x ∷ xs) zero n before e = ap (λ y. y ∷ xs) e
written_back (x ∷ xs) (suc k) n before e = ap (λ ys. x ∷ ys) (written_back xs k n before e)
