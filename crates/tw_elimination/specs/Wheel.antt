-- The dispute wheel that is told where elimination leaves a choice: each router's best path leads to the next (after Griffin,
-- Shepherd, Wilfong 2002).
use Rattle.std.specs.Prelude.{ℕ, suc, zero, ◌==◌, List, [], ◌∷◌, drop, length, map, slice_index_or, Option, Some, None, if◌then◌else◌}
use Rattle.std.specs.List.{find, prefix_len, range_with_len}
use Rattle.std.specs.Option.{unwrap_or}
use Rattle.tw_event.specs.declared.event.PathNo.{PathNo}
use Rattle.tw_model.specs.Case.{Case}
use Rattle.tw_model.specs.Net.{Net, empty_path, path, paths, same_path}
use Rattle.tw_model.specs.State.{State}
use Rattle.tw_policy.specs.DisputeWheel.{IsDisputeWheel, Pivot}
use Rattle.tw_policy.specs.Search.{first_of, has_choice}
use Rattle.tw_elimination.specs.declared.wheel.Pivot.{Pivot as Told}
use Rattle.tw_elimination.specs.Rounds.{left_in}

-- the pivot that the program tells
abbrev pub pivot_of : Told → Pivot
pivot_of p = record { router = p.router; spoke = p.spoke; rim = p.rim }

-- the first of these nodes
abbrev pub first_node : List ℕ → ℕ
first_node nodes = slice_index_or nodes 0 0

-- the number of the path with these nodes
unfoldable pub number_of : Net → List ℕ → PathNo
number_of net nodes =
    unwrap_or (find (λ q. same_path (path net q) nodes) (map (λ k. record { 0 = k }) (range_with_len 0 (length (paths net))))) empty_path

-- these nodes from the last router on that is reached by way of routers with a choice alone, and has one
abbrev pub from_last_choice : (ℕ → List PathNo) → List ℕ → List ℕ
from_last_choice left nodes = drop (prefix_len (has_choice left) (drop 1 nodes)) nodes

module _ (net : Net) (left : ℕ → List PathNo) where
  -- the nodes of the spoke to which v's best path leads
  abbrev pub spoke_nodes : ℕ → List ℕ
  spoke_nodes v = from_last_choice left (path net (first_of left v))

  -- the pivot to which v's best path leads; its rim path is its own best path
  abbrev pub next_pivot : ℕ → Pivot
  next_pivot v = let w = first_node (spoke_nodes v) in record { router = w; spoke = number_of net (spoke_nodes v); rim = first_of left w }

  -- the router that is reached after so many pivots from v on
  abbrev pub after_pivots : ℕ → ℕ → ℕ
  after_pivots zero v = v
  after_pivots (suc n) v = (next_pivot (after_pivots n v)).router

  -- the pivots behind this one, n at most, up to that of router `last`
  abbrev pub pivots_to : ℕ → ℕ → Pivot → List Pivot
  pivots_to zero last p = []
  pivots_to (suc n) last p = if p.router == last then [] else next_pivot p.router ∷ pivots_to n last (next_pivot p.router)

  -- the pivots from the one behind router `last` on, up to that of this router
  abbrev pub ring_to : ℕ → List Pivot
  ring_to last = next_pivot last ∷ pivots_to net.nodes last (next_pivot last)

  -- the ring to which a router leads: after as many pivots as there are routers the walk is on it
  abbrev pub ring_of : Option ℕ → List Pivot
  ring_of None = []
  ring_of (Some v) = ring_to (after_pivots net.nodes v)

  -- that to which the first router with a choice leads

  abbrev pub wheel_in : List Pivot
  wheel_in = ring_of (find (has_choice left) (range_with_len 0 net.nodes))

-- the lists of the routers after n rounds, one behind the other; none where there is no such router
abbrev pub lists_in : Case → ℕ → ℕ → List PathNo
lists_in case n v = slice_index_or (map (left_in case n) (range_with_len 0 case.net.nodes)) v []

-- the pivots that are told after n rounds, in the order of the ring; none where no router has a choice
unfoldable pub wheel_of : Case → ℕ → List Pivot
wheel_of case n = wheel_in case.net (lists_in case n)

-- the pivots are a dispute wheel, by how these routers stand
abbrev pub AreWheel : Net → (ℕ → State) → List Pivot → Type 0
AreWheel net states [] = ⊥
AreWheel net states (one ∷ others) = IsDisputeWheel net states one others
