-- Folds by the greater and by the less of two numbers.
use Rattle.std.proofs.Common.{◌≡◌, ℕ, ◌*◌, ◌≤◌, zero, suc, max, min, List, [], ◌∷◌, length, take, drop, replicate, fold, refl, sym, ap, ◌∙◌, arith, get_or, ◌<◌, ◌⊎◌, ltb, cond, inl, inr, Contains}
use Rattle.std.specs.Simd.Lanes.{zip2, sel_l}
use Rattle.std.specs.Simd.{first_chunks}
use Rattle.std.proofs.lemmas.Bool.{cases_lt}
use Rattle.std.proofs.lemmas.Bool.Decides.{nat_tests}
use Rattle.std.proofs.lemmas.List.{length-drop}
use Rattle.std.proofs.lemmas.List.Sums.{fold-append}
use Rattle.std.proofs.lemmas.Simd.{length-zip2, length-chunk, length-replicate}
use Rattle.tw_lanes.proofs.Chunks.{joined, joined_then_rest}

-- f joins two numbers into one, whichever comes first
pub record Joins (f : ℕ → ℕ → ℕ) : Type 0 where
  pub groups : (a x y : ℕ) → f a (f x y) ≡ f (f a x) y
  pub swaps : (a x y : ℕ) → f (f a x) y ≡ f (f a y) x
  pub same : (a : ℕ) → f a a ≡ a

pub max-Joins : Joins max
max-Joins = record { groups = λ a x y. omega arith; swaps = λ a x y. omega arith; same = λ a. omega arith }

pub min-Joins : Joins min
min-Joins = record { groups = λ a x y. omega arith; swaps = λ a x y. omega arith; same = λ a. omega arith }

fold-last : (f : ℕ → ℕ → ℕ) → Joins f → (a y : ℕ) (xs : List ℕ) → f (fold f a xs) y ≡ fold f (f a y) xs
fold-last f j a y [] = refl
fold-last f j a y (x ∷ xs) = fold-last f j (f a x) y xs ∙ ap (λ b. fold f b xs) (j.swaps a x y)

fold-zip2 : (f : ℕ → ℕ → ℕ) → Joins f → (a : ℕ) (xs ys : List ℕ) → length xs ≡ length ys → fold f a (zip2 f xs ys) ≡ fold f (fold f a xs) ys
fold-zip2 f j a [] [] h = refl
fold-zip2 f j a [] (y ∷ ys) h = absurd (omega arith)
fold-zip2 f j a (x ∷ xs) [] h = absurd (omega arith)
fold-zip2 f j a (x ∷ xs) (y ∷ ys) h =
    fold-zip2 f j (f a (f x y)) xs ys (omega arith)
    ∙ ap (λ b. fold f (fold f b xs) ys) (j.groups a x y)
    ∙ ap (λ b. fold f b ys) (sym (fold-last f j (f a x) y xs))

fold-replicate : (f : ℕ → ℕ → ℕ) → Joins f → (a n : ℕ) → fold f a (replicate n a) ≡ a
fold-replicate f j a zero = refl
fold-replicate f j a (suc n) = ap (λ b. fold f b (replicate n a)) (j.same a) ∙ fold-replicate f j a n

-- the fold over the lanes, of which each is a fold over one place of the chunks
fold-lanes : (f : ℕ → ℕ → ℕ) → Joins f → (a n k : ℕ) (lanes xs : List ℕ) → length lanes ≡ n → k * n ≤ length xs
    → fold f a (fold (zip2 f) lanes (first_chunks n k xs)) ≡ fold f (fold f a lanes) (joined (first_chunks n k xs))
fold-lanes f j a n zero lanes xs e h = refl
fold-lanes f j a n (suc k) lanes xs e h =
    let long : length (take n xs) ≡ n = length-chunk 0 n xs (omega arith) in
    let same : length lanes ≡ length (take n xs) = omega arith in
    fold-lanes f j a n k (zip2 f lanes (take n xs)) (drop n xs) (length-zip2 f lanes (take n xs) same ∙ e) (omega (arith, length-drop n xs))
    ∙ ap (λ b. fold f b (joined (first_chunks n k (drop n xs)))) (fold-zip2 f j a lanes (take n xs) same)
    ∙ sym (fold-append f (fold f a lanes) (take n xs) (joined (first_chunks n k (drop n xs))))

-- the lanes first, and then what is left after the chunks
pub fold_by_lanes : (f : ℕ → ℕ → ℕ) → Joins f → (a n k : ℕ) (xs : List ℕ) → k * n ≤ length xs → fold f (fold f a (fold (zip2 f) (replicate n a) (first_chunks n k xs))) (drop (k * n) xs) ≡ fold f a xs
fold_by_lanes f j a n k xs h =
    ap (λ b. fold f b (drop (k * n) xs)) (fold-lanes f j a n k (replicate n a) xs (length-replicate n a) h ∙ ap (λ b. fold f b (joined (first_chunks n k xs))) (fold-replicate f j a n))
    ∙ sym (fold-append f a (joined (first_chunks n k xs)) (drop (k * n) xs))
    ∙ ap (fold f a) (joined_then_rest n k xs)

-- the fold is as good as the first number and as each of the others
pub absorbs_first : (f : ℕ → ℕ → ℕ) → Joins f → (a : ℕ) (xs : List ℕ) → f (fold f a xs) a ≡ fold f a xs
absorbs_first f j a xs = fold-last f j a a xs ∙ ap (λ b. fold f b xs) (j.same a)

pub absorbs : (f : ℕ → ℕ → ℕ) → Joins f → (a : ℕ) (xs : List ℕ) (k d : ℕ) → k < length xs → f (fold f a xs) (get_or xs k d) ≡ fold f a xs
absorbs f j a [] k d lt = absurd (omega arith)
absorbs f j a (x ∷ xs) zero d lt = fold-last f j (f a x) x xs ∙ ap (λ b. fold f b xs) (sym (j.groups a x x) ∙ ap (f a) (j.same x))
absorbs f j a (x ∷ xs) (suc k) d lt = absorbs f j (f a x) xs k d (omega arith)

-- the fold is the first number or one of the others
pub picks : (f : ℕ → ℕ → ℕ) → ((a x : ℕ) → (f a x ≡ a) ⊎ (f a x ≡ x)) → (a : ℕ) (xs : List ℕ) → (fold f a xs ≡ a) ⊎ Contains xs (fold f a xs)
picks f either a [] = inl refl
picks f either a (x ∷ xs) =
    elim (picks f either (f a x) xs) [
      | inl e ↦ elim (either a x) [
        | inl l ↦ inl (e ∙ l)
        | inr r ↦ inr (0, omega arith, sym (e ∙ r))
      ]
      | inr there ↦ inr (suc there.0, omega (arith, there.1), there.2)
    ]

pub max-picks : (a x : ℕ) → (max a x ≡ a) ⊎ (max a x ≡ x)
max-picks a x = elim (cases_lt a x) [ inl l ↦ inr (omega arith) | inr g ↦ inl (omega arith) ]

pub min-picks : (a x : ℕ) → (min a x ≡ a) ⊎ (min a x ≡ x)
min-picks a x = elim (cases_lt a x) [ inl l ↦ inl (omega arith) | inr g ↦ inr (omega arith) ]

-- the first number, which is itself one of the list, or one of the others
pub picks_one : (f : ℕ → ℕ → ℕ) → ((a x : ℕ) → (f a x ≡ a) ⊎ (f a x ≡ x)) → (x : ℕ) (xs : List ℕ) → Contains (x ∷ xs) (fold f x xs)
picks_one f either x xs =
    elim (picks f either x xs) [
      | inl e ↦ (0, omega arith, sym e)
      | inr there ↦ (suc there.0, omega (arith, there.1), there.2)
    ]

greater : (x y : ℕ) → cond (ltb x y) y x ≡ max x y
greater x y = grind (arith, nat_tests)

lesser : (x y : ℕ) → cond (ltb x y) x y ≡ min x y
lesser x y = grind (arith, nat_tests)

-- a choice by a test in each lane is the greater, or the lesser, of each two lanes
pub select-max : (xs ys : List ℕ) → sel_l (zip2 ltb xs ys) ys xs ≡ zip2 max xs ys
select-max [] ys = refl
select-max (x ∷ xs) [] = refl
select-max (x ∷ xs) (y ∷ ys) = let head : cond (ltb x y) y x ≡ max x y = greater x y in ap (λ z. z ∷ sel_l (zip2 ltb xs ys) ys xs) head ∙ ap (λ zs. max x y ∷ zs) (select-max xs ys)

pub select-min : (xs ys : List ℕ) → sel_l (zip2 ltb xs ys) xs ys ≡ zip2 min xs ys
select-min [] ys = refl
select-min (x ∷ xs) [] = refl
select-min (x ∷ xs) (y ∷ ys) = let head : cond (ltb x y) x y ≡ min x y = lesser x y in ap (λ z. z ∷ sel_l (zip2 ltb xs ys) xs ys) head ∙ ap (λ zs. min x y ∷ zs) (select-min xs ys)
