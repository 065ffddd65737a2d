-- Lists that are kept in order, by a test of whether one element comes before another; and how often an element stands in a
-- list, by a test of whether two are the same (own).
use Rattle.std.specs.Prelude.{ℕ, ◌+◌, Bool, cond, Option, Some, None, List, [], ◌∷◌}

module _ {E : Type 0} (before : E → E → Bool) where
  -- into its place in the order
  abbrev pub insert : E → List E → List E
  insert e [] = e ∷ []
  insert e (x ∷ xs) = cond (before x e) (x ∷ insert e xs) (e ∷ x ∷ xs)

  -- each into its place, the first of them first
  abbrev pub insert_all : List E → List E → List E
  insert_all [] xs = xs
  insert_all (e ∷ es) xs = insert_all es (insert e xs)

  -- the one that comes first, of an element and of another, if there is another
  abbrev pub earlier : E → Option E → E
  earlier e None = e
  earlier e (Some d) = cond (before d e) d e

  -- the one that comes first, of a list's elements
  abbrev pub least : List E → Option E
  least [] = None
  least (x ∷ xs) = Some (earlier x (least xs))

module _ {E : Type 0} (same : E → E → Bool) where
  -- 1 where the two are the same, else 0
  abbrev pub one : E → E → ℕ
  one e x = cond (same e x) 1 0

  -- how often e stands in a list
  abbrev pub times : E → List E → ℕ
  times e [] = 0
  times e (x ∷ xs) = one e x + times e xs

  -- without one e
  abbrev pub take_out : E → List E → List E
  take_out e [] = []
  take_out e (x ∷ xs) = cond (same e x) xs (x ∷ take_out e xs)
