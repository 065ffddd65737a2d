-- The rest of each path, and the paths by their rest (own).
use Rattle.std.specs.Prelude.{ℕ, ◌≡◌, ◌==◌, ◌<◌, ◌≤◌, cond, zero, suc, List, [], ◌∷◌, length, map, slice_index_or, Option, Some, None}
use Rattle.std.specs.List.{All}
use Rattle.tw_event.specs.declared.event.PathNo.{PathNo}
use Rattle.tw_model.specs.Net.{Net, IsPath, path, paths}
use Rattle.tw_instance.specs.Sparse.{AreRowsOf}

-- the first node of a path, and 0 of the empty path
abbrev pub first_node : Net → PathNo → ℕ
first_node net q = slice_index_or (path net q) 0 0

-- path q is one node, its first, followed by path p
abbrev pub Extends : Net → PathNo → PathNo → Type 0
Extends net q p = path net q ≡ first_node net q ∷ path net p

-- the number of the path that q extends, or else the number past the last path
pub record IsRest (net : Net) (q : PathNo) (rest : ℕ) : Type 0 where
  pub within : rest ≤ length (paths net)
  pub sound : (p : PathNo) → IsPath net p → rest ≡ p.0 → Extends net q p
  pub whole : (p : PathNo) → IsPath net p → Extends net q p → rest ≡ p.0

-- these are the rests of the first paths, so many
pub record AreRests (net : Net) (count : ℕ) (rests : List ℕ) : Type 0 where
  pub long : length rests ≡ count
  pub each : (q : PathNo) → q.0 < count → IsRest net q (slice_index_or rests q.0 0)

-- the places below k that hold r, the last first
abbrev pub places_of : List ℕ → ℕ → ℕ → List ℕ
places_of xs r zero = []
places_of xs r (suc k) = cond (slice_index_or xs k 0 == r) (k ∷ places_of xs r k) (places_of xs r k)

-- the first item
abbrev pub first_of : List ℕ → Option ℕ
first_of [] = None
first_of (x ∷ xs) = Some x

-- last has for each number up to so many its last place below k, before has for each place below k the last place before it of the same number
pub record AreChained (xs : List ℕ) (numbers k : ℕ) (last before : List (Option ℕ)) : Type 0 where
  pub all : length last ≡ numbers
  pub long : length before ≡ k
  pub lasts : (r : ℕ) → r < numbers → slice_index_or last r None ≡ first_of (places_of xs r k)
  pub befores : (j : ℕ) → j < k → slice_index_or before j None ≡ first_of (places_of xs (slice_index_or xs j 0) j)

-- the paths at the places that hold r, the last first
abbrev pub row_of : List ℕ → ℕ → List PathNo
row_of xs r = map (λ k. record { 0 = k }) (places_of xs r (length xs))

-- the rows of the first numbers, so many, stand behind one another, and hold paths alone
pub record AreRows (xs : List ℕ) (count : ℕ) (starts : List ℕ) (numbers : List PathNo) : Type 0 where
  pub rows : AreRowsOf (row_of xs) count starts numbers
  pub few : All (λ q. q.0 < length xs) numbers
