-- What a router knows, and how it begins (Griffin, Shepherd, Wilfong 2002; sessions and counters own).
use Rattle.std.specs.Prelude.{ℕ, ◌≡◌, ◌≢◌, ◌≤◌, ◌==◌, Bool, true, not, ◌&&◌, List, [], ◌∷◌, ◌-◌, false, length, map, nat_lt, slice_index_or, if◌then◌else◌}
use Rattle.std.specs.List.{All, AllPairs, find, list_any, position_or_len}
use Rattle.std.specs.Option.{unwrap_or}
use Rattle.tw_event.specs.declared.event.PathNo.{PathNo}
use Rattle.tw_model.specs.declared.limits.TheConstants.{MOST_COUNTED}
use Rattle.tw_model.specs.declared.net.Hop.{Hop}
use Rattle.tw_model.specs.declared.state.Counters.{Counters}
use Rattle.tw_model.specs.declared.state.Row.{Row}
use Rattle.tw_model.specs.Net.{Net, IsPath, empty_path, origin_path, path, same_path, is_own, hops_of, no_net, paths_of}

-- one row for each neighbour in ascending order; the permitted paths best first; which paths are barred, in the order given
pub record State : Type 0 where
  pub rib : PathNo
  pub rows : List Row
  pub order : List PathNo
  pub barred : List Bool
  pub counters : Counters

-- a router of an instance, with its state
pub record Router : Type 0 where
  pub net : Net
  pub node : ℕ
  pub state : State

-- whether the neighbour of this row offers q: the link is up, and q is v followed by what was heard
abbrev pub offers : Net → ℕ → PathNo → Row → Bool
offers net v q row = row.up && (not (row.heard.0 == 0) && same_path (path net q) (v ∷ path net row.heard))

-- the place of q among the paths of v as they were given, from 0
abbrev pub line_of : Net → ℕ → PathNo → ℕ
line_of net v q = position_or_len (λ p. p.0 == q.0) (paths_of net v)

-- whether path q of v is barred
abbrev pub bars : Net → ℕ → List Bool → PathNo → Bool
bars net v barred q = slice_index_or barred (line_of net v q) false

-- whether q may be used: it is not barred, and a neighbour offers it
abbrev pub is_choice : Net → ℕ → State → PathNo → Bool
is_choice net v s q = not (bars net v s.barred q) && list_any (offers net v q) s.rows

-- the first path in order that is not barred and that a neighbour offers, or the empty path; at the origin (0)
abbrev pub best : Net → ℕ → State → PathNo
best net v s = if v == 0 then origin_path else unwrap_or (find (is_choice net v s) s.order) empty_path

-- counters that a router can have
pub record IsCounted (c : Counters) : Type 0 where
  pub sent : c.sent ≤ MOST_COUNTED
  pub handled : c.handled ≤ MOST_COUNTED
  pub dropped : c.dropped ≤ c.handled
  pub changed : c.changed ≤ c.handled

-- a state of a value for router v: wider than the states of runs, since a writer takes any path of the net as used or as heard
pub record IsState (net : Net) (v : ℕ) (s : State) : Type 0 where
  pub rib : IsPath net s.rib
  pub hops : length s.rows ≡ length (hops_of net v)
  pub heard : All (λ row. IsPath net row.heard) s.rows
  pub sessions : All (λ row. row.session ≤ s.counters.handled) s.rows
  pub places : length s.order ≡ length (paths_of net v)
  pub order : All (λ q. is_own net v q ≡ true) s.order
  pub distinct : AllPairs (λ p q. p ≢ q) s.order
  pub barred : length s.barred ≡ length (paths_of net v)
  pub counters : IsCounted s.counters

-- how many neighbours of v stand before w
abbrev pub slot : Net → ℕ → ℕ → ℕ
slot net v w = position_or_len (λ h. h.peer == w) (hops_of net v)

-- whether w is a neighbour of v
abbrev pub has_peer : Net → ℕ → ℕ → Bool
has_peer net v w = nat_lt (slot net v w) (length (hops_of net v))

-- the neighbour that stands where there is none
abbrev pub no_hop : Hop
no_hop = record { peer = 0; delay = 1 }

-- the row that stands where there is none
abbrev pub no_row : Row
no_row = record { heard = empty_path; up = true; session = 0 }

-- the neighbour of slot k
abbrev pub hop : Net → ℕ → ℕ → Hop
hop net v k = slice_index_or (hops_of net v) k no_hop

-- what is kept of the neighbour of slot k
abbrev pub row : State → ℕ → Row
row s k = slice_index_or s.rows k no_row

-- whether path k of those given, from 1, is barred
abbrev pub is_barred : State → ℕ → Bool
is_barred s k = slice_index_or s.barred (k - 1) false

-- no path of v is barred
abbrev pub none_barred : Net → ℕ → List Bool
none_barred net v = map (λ q. false) (paths_of net v)

-- nothing is counted yet
abbrev pub no_counts : Counters
no_counts = record { sent = 0; handled = 0; dropped = 0; changed = 0 }

-- what stands where there is no router
abbrev pub no_router : Router
no_router = record { net = no_net; node = 0; state = record { rib = empty_path; rows = []; order = []; barred = []; counters = no_counts } }

-- the row with which a link begins: up, in its first session, with nothing heard
abbrev pub fresh_row : Hop → Row
fresh_row h = record { heard = empty_path; up = true; session = 0 }

-- the state in which router v begins, with these counters
abbrev pub opening_with : Net → ℕ → Counters → State
opening_with net v c = record { rib = empty_path; rows = map fresh_row (hops_of net v); order = paths_of net v; barred = none_barred net v; counters = c }

-- the state in which router v begins
abbrev pub opening : Net → ℕ → State
opening net v = opening_with net v no_counts
