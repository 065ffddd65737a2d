-- The first place of the least time in a row, whose times are the leaves of a tree (own).
use Rattle.std.specs.Prelude.{◌≡◌, ◌<◌, ◌≤◌, ◌+◌, ◌*◌, ℕ, List, drop, length, min, take}
use Rattle.std.specs.Int.{IsPowerOfTwo}
use Rattle.std.specs.List.{slice_index_or}
use Rattle.tw_ordered.specs.Times.{never}
use Rattle.tw_queue.specs.declared.least_times.LeastTimes.TheInside.{Inside}

-- no time is less than the one at the place, and each before it is greater
pub record IsFirstLeast (times : List ℕ) (place : ℕ) : Type 0 where
  pub within : place < length times
  pub least : (k : ℕ) → k < length times → slice_index_or times place 0 ≤ slice_index_or times k 0
  pub first : (k : ℕ) → k < place → slice_index_or times place 0 < slice_index_or times k 0

-- a node has the lesser time of its two children
abbrev pub IsLesser : ℕ → List ℕ → Type 0
IsLesser node nodes = slice_index_or nodes node 0 ≡ min (slice_index_or nodes (2 * node) 0) (slice_index_or nodes (2 * node + 1) 0)

-- each node that has children has the lesser time of them
abbrev pub AreLesser : List ℕ → Type 0
AreLesser nodes = (node : ℕ) → 0 < node → 2 * node + 1 < length nodes → IsLesser node nodes

-- each has but one
abbrev pub AreLesserBut : ℕ → List ℕ → Type 0
AreLesserBut one nodes = (node : ℕ) → 0 < node → 2 * node + 1 < length nodes → (node ≡ one → ⊥) → IsLesser node nodes

-- among the nodes that begin at `level`, as many as its number says, a node has the least time, and each before it a greater one
pub record IsFirstOfLevel (nodes : List ℕ) (level node : ℕ) : Type 0 where
  pub from : level ≤ node
  pub below : node < 2 * level
  pub least : (k : ℕ) → level ≤ k → k < 2 * level → slice_index_or nodes node 0 ≤ slice_index_or nodes k 0
  pub first : (k : ℕ) → level ≤ k → k < node → slice_index_or nodes node 0 < slice_index_or nodes k 0

-- the times of the row
abbrev pub row_of : Inside → List ℕ
row_of a = take a.count (drop a.leaves a.nodes.items)

-- half of the nodes are leaves, those past the row have the time that stands for no event, and each other node has the lesser time of its children
pub record IsTree (a : Inside) : Type 0 where
  pub power : IsPowerOfTwo a.leaves
  pub len : length a.nodes.items ≡ 2 * a.leaves
  pub count : a.count ≤ a.leaves
  pub latest : (k : ℕ) → a.leaves ≤ k → slice_index_or a.nodes.items k 0 ≤ never
  pub past : (k : ℕ) → a.leaves + a.count ≤ k → k < 2 * a.leaves → slice_index_or a.nodes.items k 0 ≡ never
  pub lesser : AreLesser a.nodes.items
