-- Rows of items that stand behind one another in one list: compressed sparse rows (own).
use Rattle.std.specs.Prelude.{ℕ, ◌≡◌, ◌+◌, ◌-◌, ◌<◌, ◌≤◌, List, drop, length, slice_index_or, take}

-- row r of a list that is cut at these places
abbrev pub cut : {X : Type 0} → List ℕ → ℕ → List X → List X
cut starts r xs = take (slice_index_or starts (r + 1) 0 - slice_index_or starts r 0) (drop (slice_index_or starts r 0) xs)

-- row r of a list of so many is within it, and begins before it ends
pub record IsRowWithin (starts : List ℕ) (r long : ℕ) : Type 0 where
  pub rises : slice_index_or starts r 0 ≤ slice_index_or starts (r + 1) 0
  pub within : slice_index_or starts (r + 1) 0 ≤ long

-- the rows of the first numbers, so many, stand behind one another: that of r is F r
pub record AreRowsOf {X : Type 0} (F : ℕ → List X) (count : ℕ) (starts : List ℕ) (xs : List X) : Type 0 where
  pub long : length starts ≡ count + 1
  pub end : slice_index_or starts count 0 ≡ length xs
  pub cuts : (r : ℕ) → r < count → IsRowWithin starts r (length xs)
  pub rows : (r : ℕ) → r < count → cut starts r xs ≡ F r
