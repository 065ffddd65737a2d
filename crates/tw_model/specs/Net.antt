-- An instance of the stable paths problem (Griffin, Shepherd, Wilfong 2002), with a delay for each direction of a link.
use Rattle.std.specs.Prelude.{ℕ, ◌<◌, ◌==◌, Bool, false, ◌||◌, ◌&&◌, List, [], ◌∷◌, length, map, slice_index_or, nat_eq, Option, if◌then◌else◌}
use lib.Pointwise.{pointwise}
use Rattle.std.specs.List.{filter, filter_map, find, range_with_len}
use Rattle.std.specs.Option.{option_map}
use Rattle.tw_event.specs.declared.event.PathNo.{PathNo}
use Rattle.tw_model.specs.declared.net.Hop.{Hop}
use Rattle.tw_model.specs.declared.net.Link.{Link}
use Rattle.tw_model.specs.PermittedPath.{PermittedPath}

-- routers 0 to nodes - 1, links and permitted paths in the order given
pub record Net : Type 0 where
  pub nodes : ℕ
  pub links : List Link
  pub permitted : List PermittedPath

-- so many routers, with no link and no permitted path
abbrev pub bare_net : ℕ → Net
bare_net nodes = record { nodes = nodes; links = []; permitted = [] }

-- what stands where there is no net
abbrev pub no_net : Net
no_net = bare_net 0

-- whether the link is between v and w, in either order
abbrev pub joins : ℕ → ℕ → Link → Bool
joins v w l = (l.first == v && l.second == w) || (l.first == w && l.second == v)

-- how many ticks a message takes that v sends over the link
abbrev pub delay_from : ℕ → Link → ℕ
delay_from v l = if l.first == v then l.delay else l.back

-- w as a neighbour of v, where a link joins them
abbrev pub hop_to : List Link → ℕ → ℕ → Option Hop
hop_to links v w = option_map (λ l. record { peer = w; delay = delay_from v l }) (find (joins v w) links)

-- the neighbours of v in ascending order, each with the delay from v to it
unfoldable pub hops_of : Net → ℕ → List Hop
hops_of net v = filter_map (hop_to net.links v) (range_with_len 0 net.nodes)

-- every path by its number: 0 is the empty path, 1 is (0), then the permitted paths as given
abbrev pub paths : Net → List (List ℕ)
paths net = [] ∷ (0 ∷ []) ∷ map (λ p. p.nodes) net.permitted

-- the nodes of a path number
unfoldable pub path : Net → PathNo → List ℕ
path net p = slice_index_or (paths net) p.0 []

-- a number that stands for a path
abbrev pub IsPath : Net → PathNo → Type 0
IsPath net p = p.0 < length (paths net)

-- the number of the path with no node
abbrev pub empty_path : PathNo
empty_path = record { 0 = 0 }

-- the number of the path (0)
abbrev pub origin_path : PathNo
origin_path = record { 0 = 1 }

-- whether two lists of nodes are the same
abbrev pub same_path : List ℕ → List ℕ → Bool
same_path = pointwise nat_eq

-- whether the first node is v
abbrev pub begins_at : List ℕ → ℕ → Bool
begins_at [] v = false
begins_at (x ∷ p) v = x == v

-- the permitted paths of v, best first
unfoldable pub paths_of : Net → ℕ → List PathNo
paths_of net v =
    map (λ k. record { 0 = k }) (filter (λ k. begins_at (slice_index_or (paths net) k []) v) (range_with_len 0 (length (paths net))))

-- whether the path is permitted at v
abbrev pub is_own : Net → ℕ → PathNo → Bool
is_own net v q = begins_at (path net q) v

-- whether the path is empty or permitted at v
abbrev pub is_permitted : Net → ℕ → PathNo → Bool
is_permitted net v q = q.0 == 0 || is_own net v q
