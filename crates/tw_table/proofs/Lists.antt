-- Sums over a list of lists, and what holds of each element, when one place changes.
use Rattle.std.proofs.Common.{◌≡◌, ℕ, zero, suc, ◌+◌, List, [], ◌∷◌, ◌++◌, set, flat_map, refl, ap, sym, ◌∙◌, subst, append_assoc, arith}
use mathlib.Core.Option.{some, some-injective, some-ne-none}
use lib.ListN.{get_elem?}
use Rattle.std.specs.List.{AllByRecursion}
use Rattle.tw_core.specs.Parts.{total}

module _ {X : Type 0} where
  -- the sum after a change at one place
  pub total_set : (f : X → ℕ) (xs : List X) (i : ℕ) (a b : X) → get_elem? xs i ≡ some a → total f (set xs i b) + f a ≡ total f xs + f b
  total_set f [] i a b e = absurd (some-ne-none a (sym e))
  total_set f (x ∷ xs) zero a b e = let s : f x ≡ f a = ap f (some-injective x a e) in omega arith
  total_set f (x ∷ xs) (suc i) a b e = let s = total_set f xs i a b e in omega arith

  pub total_append : (f : X → ℕ) (xs ys : List X) → total f (xs ++ ys) ≡ total f xs + total f ys
  total_append f [] ys = omega arith
  total_append f (x ∷ xs) ys = let s = total_append f xs ys in omega arith

  -- each, after a change at one place
  pub all_set : (P : X → Type 0) (xs : List X) (i : ℕ) (b : X) → AllByRecursion P xs → P b → AllByRecursion P (set xs i b)
  all_set P [] i b h k = tt
  all_set P (x ∷ xs) zero b h k = (k, h.1)
  all_set P (x ∷ xs) (suc i) b h k = (h.0, all_set P xs i b h.1 k)

  pub all_at : (P : X → Type 0) (xs : List X) (i : ℕ) (a : X) → get_elem? xs i ≡ some a → AllByRecursion P xs → P a
  all_at P [] i a e h = absurd (some-ne-none a (sym e))
  all_at P (x ∷ xs) zero a e h = subst P (some-injective x a e) h.0
  all_at P (x ∷ xs) (suc i) a e h = all_at P xs i a e h.1

  pub all_append : (P : X → Type 0) (xs ys : List X) → AllByRecursion P xs → AllByRecursion P ys → AllByRecursion P (xs ++ ys)
  all_append P [] ys h k = k
  all_append P (x ∷ xs) ys h k = (h.0, all_append P xs ys h.1 k)

  pub all_left : (P : X → Type 0) (xs ys : List X) → AllByRecursion P (xs ++ ys) → AllByRecursion P xs
  all_left P [] ys h = tt
  all_left P (x ∷ xs) ys h = (h.0, all_left P xs ys h.1)

  pub all_right : (P : X → Type 0) (xs ys : List X) → AllByRecursion P (xs ++ ys) → AllByRecursion P ys
  all_right P [] ys h = h
  all_right P (x ∷ xs) ys h = all_right P xs ys h.1

module _ {X Y : Type 0} (g : X → List Y) where
  pub total_flat : (f : Y → ℕ) (xs : List X) → total f (flat_map g xs) ≡ total (λ x. total f (g x)) xs
  total_flat f [] = refl
  total_flat f (x ∷ xs) = total_append f (g x) (flat_map g xs) ∙ ap (λ n. total f (g x) + n) (total_flat f xs)

  pub all_apart : (P : Y → Type 0) (xs : List X) → AllByRecursion P (flat_map g xs) → AllByRecursion (λ x. AllByRecursion P (g x)) xs
  all_apart P [] h = tt
  all_apart P (x ∷ xs) h = (all_left P (g x) (flat_map g xs) h, all_apart P xs (all_right P (g x) (flat_map g xs) h))

  pub all_flat : (P : Y → Type 0) (xs : List X) → AllByRecursion (λ x. AllByRecursion P (g x)) xs → AllByRecursion P (flat_map g xs)
  all_flat P [] h = tt
  all_flat P (x ∷ xs) h = all_append P (g x) (flat_map g xs) h.0 (all_flat P xs h.1)

  -- what stands before the elements of one place and after them, which other elements there leave as it is
  pub record Around (xs : List X) (i : ℕ) (a : X) : Type 0 where
    pub front : List Y
    pub rear : List Y
    pub now : flat_map g xs ≡ front ++ (g a ++ rear)
    pub with : (b : X) → flat_map g (set xs i b) ≡ front ++ (g b ++ rear)

  pub around : (xs : List X) (i : ℕ) (a : X) → get_elem? xs i ≡ some a → Around xs i a
  around [] i a e = absurd (some-ne-none a (sym e))
  around (x ∷ xs) zero a e = record {
    front = [];
    rear = flat_map g xs;
    now = ap (λ y. g y ++ flat_map g xs) (some-injective x a e);
    with = λ b. refl;
  }
  around (x ∷ xs) (suc i) a e =
      let s = around xs i a e in record {
        front = g x ++ s.front;
        rear = s.rear;
        now = ap (λ ys. g x ++ ys) s.now ∙ sym (append_assoc (g x) s.front (g a ++ s.rear));
        with = λ b. ap (λ ys. g x ++ ys) (s.with b) ∙ sym (append_assoc (g x) s.front (g b ++ s.rear));
      }

  pub flat_append : (xs ys : List X) → flat_map g (xs ++ ys) ≡ flat_map g xs ++ flat_map g ys
  flat_append [] ys = refl
  flat_append (x ∷ xs) ys = ap (λ zs. g x ++ zs) (flat_append xs ys) ∙ sym (append_assoc (g x) (flat_map g xs) (flat_map g ys))
