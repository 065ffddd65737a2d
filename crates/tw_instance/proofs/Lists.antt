-- Lists: what one more item adds to a search, a count, a list of numbers.
use Rattle.std.proofs.Common.{◌≡◌, ℕ, suc, zero, ◌+◌, ◌<◌, ◌==◌, Bool, true, false, cond, List, [], ◌∷◌, ◌++◌, length, map, refl, ap, ◌∙◌, arith, Option, Some, None, filter, find, inl, inr}
use Rattle.std.specs.List.{All, position, position_or_len, range_with_len}
use Rattle.std.specs.Option.{option_or}
use Rattle.std.proofs.lemmas.Bool.{cases_Bool}
use Rattle.std.proofs.lemmas.List.{length-append, length-map}
use Rattle.std.proofs.lemmas.List.Elements.{All-head, All-tail, filter-append}
use Rattle.std.proofs.lemmas.List.Folds.{find-append}

-- ---- a search

-- an item that fails the test is not found
pub find_more : {X : Type 0} (p : X → Bool) (xs : List X) (y : X) → p y ≡ false → find p (xs ++ y ∷ []) ≡ find p xs
find_more p xs y h = find-append p xs (y ∷ []) ∙ rw h (or_none (find p xs)) where
  or_none : {T : Type 0} → (o : Option T) → option_or o None ≡ o
  or_none None = refl
  or_none (Some x) = refl

place-map : {X : Type 0} (f : X → ℕ) (w : ℕ) (xs : List X) → position_or_len (λ o. o == w) (map f xs) ≡ position_or_len (λ x. f x == w) xs
place-map f w [] = refl
place-map f w (x ∷ xs) =
    elim (cases_Bool (f x == w)) [
      | inl t ↦ rw t refl
      | inr n ↦ rw n (ap (λ k. 1 + k) (place-map f w xs))
    ]

-- a number is found among those of items where the first item with it is
pub position-map : {X : Type 0} (f : X → ℕ) (w : ℕ) (xs : List X) → position (λ o. o == w) (map f xs) ≡ position (λ x. f x == w) xs
position-map f w xs = rw (place-map f w xs, length-map xs f) refl

-- one that passes is found where none before it does
pub find_new : {X : Type 0} (p : X → Bool) (xs : List X) (y : X) → p y ≡ true → find p xs ≡ None → find p (xs ++ y ∷ []) ≡ Some y
find_new p xs y h none = find-append p xs (y ∷ []) ∙ rw (none, h) refl

-- ---- a count

pub count_push : {X : Type 0} (p : X → Bool) (xs : List X) (y : X) → length (filter p (xs ++ y ∷ [])) ≡ length (filter p xs) + cond (p y) 1 0
count_push p xs y = ap length (filter-append p xs (y ∷ [])) ∙ (length-append (filter p xs) (cond (p y) (y ∷ []) []) ∙ ap (λ n. length (filter p xs) + n) (one (p y))) where
  one : (b : Bool) → length (cond b (y ∷ []) []) ≡ cond b 1 0
  one true = refl
  one false = refl

-- ---- numbers from a on

pub range_push : (n a : ℕ) → range_with_len a (suc n) ≡ range_with_len a n ++ (a + n) ∷ []
range_push zero a = let e : a ≡ a + 0 = omega arith in ap (λ b. b ∷ []) e
range_push (suc n) a = ap (λ xs. a ∷ xs) (range_push n (a + 1) ∙ (let e : a + 1 + n ≡ a + suc n = omega arith in ap (λ b. range_with_len (a + 1) n ++ b ∷ []) e))

-- tests that agree on these numbers let the same pass
pub filter_alike : (p q : ℕ → Bool) (n a : ℕ) → ((k : ℕ) → k < a + n → p k ≡ q k) → filter p (range_with_len a n) ≡ filter q (range_with_len a n)
filter_alike p q zero a same = refl
filter_alike p q (suc n) a same =
    rw (same a (omega arith)) (ap (λ xs. cond (q a) (a ∷ xs) xs) (filter_alike p q n (a + 1) (λ k h. same k (omega arith))))

-- ---- functions that agree on each item

pub map_alike : {X Y : Type 0} (P : X → Type 0) (f g : X → Y) → ((x : X) → P x → f x ≡ g x) → (xs : List X) → All P xs → map f xs ≡ map g xs
map_alike P f g same [] all = refl
map_alike P f g same (x ∷ xs) all =
    let here = same x (All-head P x xs all) in
    let rest = map_alike P f g same xs (All-tail P x xs all) in
    cc
