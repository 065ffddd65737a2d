-- Tables by router: a row for each, of neighbours, of path numbers, of hashes of paths (own).
use Rattle.std.specs.Prelude.{ℕ, ◌≡◌, ◌+◌, ◌*◌, ◌%◌, ◌^◌, List, [], ◌∷◌, ◌++◌, drop, fold, length, map, slice_index_or, slice_set, nat_lt}
use Rattle.std.specs.declared.vec.Vec.{Vec}
use Rattle.tw_event.specs.declared.event.PathNo.{PathNo}
use Rattle.tw_model.specs.declared.net.Hop.{Hop}
use Rattle.tw_model.specs.declared.net.Link.{Link}
use Rattle.tw_model.specs.Net.{Net, path, paths_of}
use Rattle.tw_sim.specs.Ordered.{insert}
use Rattle.tw_instance.specs.declared.tables.TheConstants.{MULTIPLIER}

-- the items of each row
abbrev pub items : {X Z : Type 0} → List (Vec X Z) → List (List X)
items rows = map (λ r. r.items) rows

-- the row of router v, empty where there is no such router
abbrev pub row : {X Z : Type 0} → List (Vec X Z) → ℕ → List X
row rows v = slice_index_or (items rows) v []

-- a table with a row for each of so many routers: that of v is F v
pub record IsTable {X Z : Type 0} (table : List (Vec X Z)) (nodes : ℕ) (F : ℕ → List X) : Type 0 where
  pub long : length table ≡ nodes
  pub rows : (v : ℕ) → row table v ≡ F v

-- the hash of nodes and one more behind them, given that of those nodes
abbrev pub with_node : ℕ → ℕ → ℕ
with_node h v = (h * MULTIPLIER + v) % 2 ^ 32

-- a polynomial hash of nodes by Horner's rule, as of Java's strings, with the multiplier of CPython's string hash
unfoldable pub hash : List ℕ → ℕ
hash nodes = fold with_node 0 nodes

-- the hash of a path without its first node
abbrev pub tail_hash : Net → PathNo → ℕ
tail_hash net q = hash (drop 1 (path net q))

-- those of the permitted paths of v, best first
abbrev pub tail_hashes_of : Net → ℕ → List ℕ
tail_hashes_of net v = map (tail_hash net) (paths_of net v)

-- rows with x behind the items of row v
abbrev pub push_at : {X : Type 0} → List (List X) → ℕ → X → List (List X)
push_at rows v x = slice_set rows v (slice_index_or rows v [] ++ x ∷ [])

-- a hop among others in ascending order
abbrev pub with_hop : Hop → List Hop → List Hop
with_hop = insert (λ h k. nat_lt h.peer k.peer)

-- the second end of a link as a neighbour of the first
abbrev pub hop_there : Link → Hop
hop_there l = record { peer = l.second; delay = l.delay }

-- the first end of a link as a neighbour of the second
abbrev pub hop_back : Link → Hop
hop_back l = record { peer = l.first; delay = l.back }

-- rows of neighbours with one more link: each of its ends has the other
abbrev pub with_link : List (List Hop) → Link → List (List Hop)
with_link rows l =
    let one = slice_set rows l.first (with_hop (hop_there l) (slice_index_or rows l.first [])) in
    slice_set one l.second (with_hop (hop_back l) (slice_index_or rows l.second []))
