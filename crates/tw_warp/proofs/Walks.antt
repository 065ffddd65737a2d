-- A walk over a slice, one element at a time.
use Rattle.std.proofs.Common.{◌≡◌, ℕ, zero, suc, ◌+◌, ◌<◌, ◌≤◌, List, [], ◌∷◌, ◌++◌, drop, get_or, length, map, set, take, refl, ap, ◌∙◌, arith}
use Rattle.std.proofs.Math.Seq.{drop-cons}

-- what is left begins with the next element
pub drop_next : {A : Type 0} (xs : List A) (i : ℕ) (d : A) → i < length xs → drop i xs ≡ get_or xs i d ∷ drop (i + 1) xs
drop_next xs i d within = let more : suc i ≡ i + 1 = omega arith in drop-cons xs i d within ∙ ap (λ n. get_or xs i d ∷ drop n xs) more

changed_at : {A : Type 0} (f : A → A) (xs : List A) (i : ℕ) (d : A) → i < length xs
    → take (suc i) (set xs i (f (get_or xs i d))) ++ map f (drop (suc i) (set xs i (f (get_or xs i d)))) ≡ take i xs ++ map f (drop i xs)
changed_at f [] i d within = absurd (omega arith)
changed_at f (x ∷ xs) zero d within = refl
changed_at f (x ∷ xs) (suc i) d within = ap (λ ys. x ∷ ys) (changed_at f xs i d (omega arith))

-- once one more element is changed, what is changed and what is still to be changed is the same
pub changed_next : {A : Type 0} (f : A → A) (xs : List A) (i : ℕ) (d y : A) → i < length xs → y ≡ f (get_or xs i d)
    → take (i + 1) (set xs i y) ++ map f (drop (i + 1) (set xs i y)) ≡ take i xs ++ map f (drop i xs)
changed_next f xs i d y within is =
    let more : i + 1 ≡ suc i = omega arith in
    (λ j. take (more j) (set xs i (is j)) ++ map f (drop (more j) (set xs i (is j)))) ∙ changed_at f xs i d within

-- in the end all are changed
pub all_changed : {A : Type 0} (f : A → A) (xs : List A) (i : ℕ) → length xs ≤ i → take i xs ++ map f (drop i xs) ≡ xs
all_changed f [] i past = empty i where
  empty : (i : ℕ) → take i [] ++ map f (drop i []) ≡ []
  empty zero = refl
  empty (suc i) = refl
all_changed f (x ∷ xs) zero past = absurd (omega arith)
all_changed f (x ∷ xs) (suc i) past = ap (λ ys. x ∷ ys) (all_changed f xs i (omega arith))
