-- Which routers are neighbours: the adjacency matrix of the graph of links (own).
use Rattle.std.specs.Prelude.{ℕ, ◌≡◌, ◌<◌, Bool, true, false, List, [], length, slice_index_or, slice_set}
use Rattle.std.specs.declared.vec.Vec.{Vec}
use Rattle.tw_model.specs.Net.{Net}
use Rattle.tw_model.specs.Rules.{is_linked}
use Rattle.tw_instance.specs.Tables.{items, row}

-- the cell of w in the row of v, not set where there is none
abbrev pub cell : List (List Bool) → ℕ → ℕ → Bool
cell rows v w = slice_index_or (slice_index_or rows v []) w false

-- a row for each of so many routers, with a cell for each
pub record IsSquare {Z : Type 0} (matrix : List (Vec Bool Z)) (nodes : ℕ) : Type 0 where
  pub long : length matrix ≡ nodes
  pub wide : (v : ℕ) → v < nodes → length (row matrix v) ≡ nodes

-- a square of the net's routers, in which the cells of neighbours are set
pub record IsAdjacency {Z : Type 0} (net : Net) (matrix : List (Vec Bool Z)) : Type 0 where
  pub square : IsSquare matrix net.nodes
  pub cells : (v w : ℕ) → cell (items matrix) v w ≡ is_linked net.links v w

-- with the cell of w set in the row of v
abbrev pub with_cell : List (List Bool) → ℕ → ℕ → List (List Bool)
with_cell rows v w = slice_set rows v (slice_set (slice_index_or rows v []) w true)

-- with both cells of two neighbours set
abbrev pub with_joined : List (List Bool) → ℕ → ℕ → List (List Bool)
with_joined rows v w = with_cell (with_cell rows v w) w v
