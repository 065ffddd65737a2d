-- The ranks that a router keeps, by which it finds its best path (own).
use Rattle.std.specs.Prelude.{ℕ, ◌≡◌, ◌≤◌, ◌-◌, ◌==◌, ◌↔◌, Bool, false, not, ◌&&◌, IsTrue, Some, slice_get, slice_index_or, List, fold, length, map, max, if◌then◌else◌}
use Rattle.std.specs.List.{position_or_len}
use Rattle.tw_event.specs.declared.event.PathNo.{PathNo}
use Rattle.tw_model.specs.declared.limits.TheConstants.{MOST_PATHS}
use Rattle.tw_model.specs.declared.state.Row.{Row}
use Rattle.tw_model.specs.Net.{Net, paths_of}
use Rattle.tw_model.specs.State.{Router, bars, offers}
use Rattle.tw_router.specs.Valid.{IsRouter}

-- whether path q of v is not barred, and the neighbour of this row offers it
abbrev pub is_open : Net → ℕ → List Bool → Row → PathNo → Bool
is_open net v barred row q = not (bars net v barred q) && offers net v q row

-- the number of paths less the place, from 0, of the path that the neighbour of this row offers; 0 where it offers none, or a barred one
abbrev pub rank : Net → ℕ → List PathNo → List Bool → Row → ℕ
rank net v order barred row = length order - position_or_len (is_open net v barred row) order

-- the rank of path q: the number of paths less its place; 0 where it is barred
abbrev pub rank_of_path : Net → ℕ → List PathNo → List Bool → PathNo → ℕ
rank_of_path net v order barred q = if bars net v barred q then 0 else length order - position_or_len (λ p. p.0 == q.0) order

-- the rank of each neighbour, by slot
abbrev pub rank_row : Router → List ℕ
rank_row router = map (rank router.net router.node router.state.order router.state.barred) router.state.rows

-- an order that is that of the instance, with no path barred, unless it is told to be altered
abbrev pub IsOrderOf : Net → ℕ → Bool → List PathNo → List Bool → Type 0
IsOrderOf net v altered order barred = altered ≡ false → (order ≡ paths_of net v) × ((k : ℕ) → slice_index_or barred k false ≡ false)

-- the place from 0 among the permitted paths of v of the one path that the neighbour of this row offers
abbrev pub IsOfferedAt : Net → ℕ → Row → ℕ → Type 0
IsOfferedAt net v row k = (q : PathNo) × (slice_get (paths_of net v) k ≡ Some q) × ((p : PathNo) → IsTrue (offers net v p row) ↔ (Some q ≡ Some p))

-- a router that keeps these numbers as its ranks, this one as the greatest of them, and whether paths were exchanged or barred
pub record IsRanked (router : Router) (kept : List ℕ) (most : ℕ) (altered : Bool) : Type 0 where
  pub valid : IsRouter router
  pub few : length router.state.order ≤ MOST_PATHS
  pub ranks : kept ≡ rank_row router
  pub greatest : most ≡ fold max 0 kept
  pub order : IsOrderOf router.net router.node altered router.state.order router.state.barred
