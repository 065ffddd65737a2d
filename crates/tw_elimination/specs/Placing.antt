-- One list of all paths, by the ranks as they were given: in each round each router puts its next path into it, where the path
-- that this one goes on with stands there before (a topological order, after Kahn 1962).
use Rattle.std.specs.Prelude.{ℕ, suc, zero, ◌≡◌, ◌+◌, ◌<◌, ◌==◌, ◌∷◌, Bool, true, Some, slice_get, ◌||◌, ◌&&◌, List, drop, length, map, nat_lt, slice_index_or, if◌then◌else◌}
use Rattle.std.specs.List.{list_all, list_any, range_with_len}
use Rattle.tw_event.specs.declared.event.PathNo.{PathNo}
use Rattle.tw_model.specs.Net.{Net, empty_path, path, paths, paths_of}
use Rattle.tw_model.specs.State.{line_of}
use Rattle.tw_elimination.specs.Wheel.{first_node, number_of}

module _ (net : Net) (placed : List ℕ) where
  -- how many of its paths, the best first, router v has put into the list
  abbrev pub count_of : ℕ → ℕ
  count_of v = slice_index_or placed v 0

  -- whether the path r stands in the list, or is the empty one
  abbrev pub is_placed : PathNo → Bool
  is_placed r = r.0 == 0 || nat_lt (line_of net (first_node (path net r)) r) (count_of (first_node (path net r)))

  -- whether the path that q goes on with stands there, where that is a path of the net
  abbrev pub may_follow : PathNo → Bool
  may_follow q = is_placed (number_of net (drop 1 (path net q)))

  -- how many v has put there after one round more
  abbrev pub next_count : ℕ → ℕ
  next_count v =
      let k = count_of v in
      if nat_lt k (length (paths_of net v)) && may_follow (slice_index_or (paths_of net v) k empty_path) then k + 1 else k

  -- the next path of v is q, and the path that q goes on with stands there
  abbrev pub IsNextToPlace : ℕ → PathNo → Type 0
  IsNextToPlace v q = (count_of v < length (paths_of net v)) × (slice_index_or (paths_of net v) (count_of v) empty_path ≡ q) × (may_follow q ≡ true)

  -- v puts no path there in one round more
  abbrev pub PlacesNothing : ℕ → Type 0
  PlacesNothing v = next_count v ≡ count_of v

  -- the next path of v is v followed by the path p
  abbrev pub GoesOnNext : PathNo → ℕ → Type 0
  GoesOnNext p v = (q : PathNo) × (slice_get (paths_of net v) (count_of v) ≡ Some q) × (path net q ≡ v ∷ path net p)

  -- whether all paths stand there
  abbrev pub are_placed : Bool
  are_placed = list_all (λ v. count_of v == length (paths_of net v)) (range_with_len 0 net.nodes)

-- whether router v is among these
abbrev pub has_router : List ℕ → ℕ → Bool
has_router routers v = list_any (λ w. w == v) routers

-- how many each router has put there after so many rounds
abbrev pub counts_after : Net → ℕ → List ℕ
counts_after net zero = map (λ v. 0) (range_with_len 0 net.nodes)
counts_after net (suc n) = map (next_count net (counts_after net n)) (range_with_len 0 net.nodes)

-- whether all paths stand there after as many rounds as there are paths
unfoldable pub has_one_list : Net → Bool
has_one_list net = are_placed net (counts_after net (length (paths net)))
