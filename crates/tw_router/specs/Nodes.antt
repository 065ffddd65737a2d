-- The best path, said of nodes (Griffin, Shepherd, Wilfong 2002).
use Rattle.std.specs.Prelude.{ℕ, ◌==◌, nat_lt, Bool, not, ◌&&◌, List, [], ◌∷◌, length, map, if◌then◌else◌}
use Rattle.std.specs.List.{filter, find, list_any}
use Rattle.std.specs.Option.{unwrap_or}
use Rattle.tw_model.specs.Net.{Net, path, same_path}
use Rattle.tw_model.specs.State.{State, bars}

-- of one neighbour whether the link is up, and the path heard
pub record Heard : Type 0 where
  pub up : Bool
  pub path : List ℕ

-- of each neighbour, by slot
abbrev pub heard_of : Net → State → List Heard
heard_of net s = map (λ r. record { up = r.up; path = path net r.heard }) s.rows

-- the nodes of each path of v's order that is not barred
abbrev pub order_of : Net → ℕ → State → List (List ℕ)
order_of net v s = map (path net) (filter (λ q. not (bars net v s.barred q)) s.order)

-- whether the path is v followed by a path, not an empty one, that was heard over a link that is up
abbrev pub is_heard_of : ℕ → List Heard → List ℕ → Bool
is_heard_of v heard p = list_any (λ h. h.up && (nat_lt 0 (length h.path) && same_path p (v ∷ h.path))) heard

-- the first such path of the order, or the empty path; at the origin (0)
abbrev pub best_nodes : ℕ → List Heard → List (List ℕ) → List ℕ
best_nodes v heard order = if v == 0 then 0 ∷ [] else unwrap_or (find (is_heard_of v heard) order) []
