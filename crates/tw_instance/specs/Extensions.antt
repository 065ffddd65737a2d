-- The table of the paths that are another path behind one more node (own).
use Rattle.std.specs.Prelude.{ℕ, ◌≡◌, ◌+◌, ◌<◌, ◌∷◌, true, List, length, map, slice_get, slice_index_or, Some}
use Rattle.std.specs.List.{All, Contains}
use Rattle.tw_event.specs.declared.event.PathNo.{PathNo}
use Rattle.tw_model.specs.Net.{Net, IsPath, is_own, path, paths, paths_of}
use Rattle.tw_instance.specs.Chains.{Extends, first_node}
use Rattle.tw_instance.specs.Firsts.{AreFirsts}
use Rattle.tw_instance.specs.Sparse.{IsRowWithin, cut}
use Rattle.tw_instance.specs.declared.extensions.Extension.{Extension}
use Rattle.tw_instance.specs.declared.extensions.Extensions.{Extensions}

-- the first nodes of these extensions
abbrev pub nodes_in : List Extension → List ℕ
nodes_in = map (λ e. e.node)

-- their places among the permitted paths of their routers
abbrev pub places_in : List Extension → List ℕ
places_in = map (λ e. e.place)

-- at the router of path q, its place from 0 among the permitted paths is k
abbrev pub IsPlaceOf : Net → PathNo → ℕ → Type 0
IsPlaceOf net q k = (v : ℕ) → is_own net v q ≡ true → slice_get (paths_of net v) k ≡ Some q

-- these are the places of these paths
pub record ArePlacesOf (net : Net) (numbers : List PathNo) (places : List ℕ) : Type 0 where
  pub long : length places ≡ length numbers
  pub each : (i : ℕ) (d : PathNo) → i < length numbers → IsPlaceOf net (slice_index_or numbers i d) (slice_index_or places i 0)

-- place k of the permitted paths of v is that of v followed by path p
abbrev pub IsExtendedAt : Net → ℕ → PathNo → ℕ → Type 0
IsExtendedAt net v p k = (q : PathNo) × (slice_get (paths_of net v) k ≡ Some q) × (path net q ≡ v ∷ path net p)

-- row r of the table is there, and within it
pub record HasRow (t : Extensions) (r : ℕ) : Type 0 where
  pub there : r + 1 < length t.starts.items
  pub cut : IsRowWithin t.starts.items r (length t.numbers.items)
  pub alike : length t.extensions.items ≡ length t.numbers.items
  pub firsts : AreFirsts t.starts.items t.extensions.items t.firsts.items

-- in the table each path has a row: the numbers of the paths that extend it, their first nodes, and their places;
-- and of each row the first extension is known
pub record HasExtensions (net : Net) (t : Extensions) : Type 0 where
  pub long : length t.starts.items ≡ length (paths net) + 1
  pub cuts : (p : PathNo) → IsPath net p → IsRowWithin t.starts.items p.0 (length t.numbers.items)
  pub nodes : nodes_in t.extensions.items ≡ map (first_node net) t.numbers.items
  pub places : ArePlacesOf net t.numbers.items (places_in t.extensions.items)
  pub firsts : AreFirsts t.starts.items t.extensions.items t.firsts.items
  pub sound : (p : PathNo) → IsPath net p → All (λ q. Extends net q p) (cut t.starts.items p.0 t.numbers.items)
  pub whole : (p q : PathNo) → IsPath net p → Extends net q p → Contains (cut t.starts.items p.0 t.numbers.items) q
