-- Sums over a list, and what holds of each of its elements.
use Rattle.std.proofs.Common.{◌≡◌, ℕ, ◌+◌, ◌<◌, Bool, List, [], ◌∷◌, Option, Some, None, find, refl, inl, inr, arith, nat_lt}
use Rattle.std.proofs.lemmas.Bool.{cases_Bool, ltb-true, ltb-false}
use Rattle.std.specs.List.{AllByRecursion}
use Rattle.std.specs.Option.{option_map_or}
use Rattle.tw_core.specs.Parts.{total}

module _ {X : Type 0} where
  -- what holds of each, made weaker
  pub all_map : (P Q : X → Type 0) → ((x : X) → P x → Q x) → (xs : List X) → AllByRecursion P xs → AllByRecursion Q xs
  all_map P Q f [] h = tt
  all_map P Q f (x ∷ xs) h = (f x h.0, all_map P Q f xs h.1)

  -- two things that hold of each, put together
  pub all_both : (P Q R : X → Type 0) → ((x : X) → P x → Q x → R x) → (xs : List X) → AllByRecursion P xs → AllByRecursion Q xs → AllByRecursion R xs
  all_both P Q R f [] h k = tt
  all_both P Q R f (x ∷ xs) h k = (f x h.0 k.0, all_both P Q R f xs h.1 k.1)

  -- the sum of sums
  pub total_add : (f g : X → ℕ) (xs : List X) → total (λ x. f x + g x) xs ≡ total f xs + total g xs
  total_add f g [] = refl
  total_add f g (x ∷ xs) = let more = total_add f g xs in omega arith

  -- the sum of zeros
  pub total_zero : (f : X → ℕ) (xs : List X) → AllByRecursion (λ x. f x ≡ 0) xs → total f xs ≡ 0
  total_zero f [] h = refl
  total_zero f (x ∷ xs) h = (let first = h.0 in let more = total_zero f xs h.1 in omega arith)

  -- where a sum is not 0, one of its terms is not
  pub some_of : (f : X → ℕ) (Q : Type 0) (xs : List X) → AllByRecursion (λ x. 0 < f x → Q) xs → 0 < total f xs → Q
  some_of f Q [] h k = absurd (omega arith)
  some_of f Q (x ∷ xs) h k =
      elim (cases_Bool (nat_lt 0 (f x))) [
        | inl b ↦ h.0 (ltb-true 0 (f x) b)
        | inr b ↦ some_of f Q xs h.1 (let no = ltb-false 0 (f x) b in omega arith)
      ]

  -- the value of the one found, where all are zero
  pub found_zero : (f : X → ℕ) (test : X → Bool) (xs : List X) → AllByRecursion (λ x. f x ≡ 0) xs → option_map_or f (find test xs) 0 ≡ 0
  found_zero f test [] h = refl
  found_zero f test (x ∷ xs) h =
      elim (cases_Bool (test x)) [ inl b ↦ rw b h.0 | inr b ↦ rw b (found_zero f test xs h.1) ]

  -- a function of what is read
  pub through : {Y Z : Type 0} (g : Y → Z) (f : X → Y) (o : Option X) (d : Y) → g (option_map_or f o d) ≡ option_map_or (λ x. g (f x)) o (g d)
  through g f None d = refl
  through g f (Some x) d = refl
