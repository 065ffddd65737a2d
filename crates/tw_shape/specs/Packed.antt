-- How a shape is stored: the rows, the orders and the bars of all routers one after the other, and the pending events in any order (own).
use Rattle.std.specs.Prelude.{ℕ, Bool, ◌≡◌, ◌≤◌, ◌+◌, ◌*◌, ◌%◌, ◌^◌, List, [], ◌∷◌, drop, length, map, min, slice_index, take}
use Rattle.std.specs.List.{fold, sum_by}
use Rattle.tw_event.specs.declared.event.Body.{Body}
use Rattle.tw_event.specs.declared.event.Body.TheVariants.{Start, Fail, Restore, Swap, Forbid, Allow, Update}
use Rattle.tw_event.specs.declared.event.Event.{Event}
use Rattle.tw_event.specs.declared.event.PathNo.{PathNo}
use Rattle.tw_event.specs.Order.{event_before}
use Rattle.tw_model.specs.declared.state.Row.{Row}
use Rattle.tw_shape.specs.declared.seen.TheConstants.{MULTIPLIER}
use Rattle.tw_shape.specs.declared.shape.Span.{Span}
use Rattle.tw_shape.specs.Shape.{RouterShape, seen_from}
use Rattle.tw_sim.specs.Ordered.{insert_all}

-- the routers, each with the next rows, paths and bars, as many as its span says
abbrev pub routers_of : List Span → List Row → List PathNo → List Bool → List RouterShape
routers_of [] rows order barred = []
routers_of (s ∷ spans) rows order barred =
    record { rib = s.rib; rows = take s.rows rows; order = take s.order order; barred = take s.barred barred }
    ∷ routers_of spans (drop s.rows rows) (drop s.order order) (drop s.barred barred)

-- the spans say of every row, path and bar whose it is
abbrev pub Covers : List Span → List Row → List PathNo → List Bool → Type 0
Covers [] rows order barred = (rows ≡ []) × (order ≡ []) × (barred ≡ [])
Covers (s ∷ spans) rows order barred =
    (s.rows ≤ length rows) × (s.order ≤ length order) × (s.barred ≤ length barred)
    × Covers spans (drop s.rows rows) (drop s.order order) (drop s.barred barred)

-- events in their order
abbrev pub in_order : List Event → List Event
in_order events = insert_all event_before events []

-- events as they are seen from time t, when each router has sent so many messages
abbrev pub seen : ℕ → List ℕ → List Event → List Event
seen t sent events = map (λ e. seen_from t (slice_index sent e.src) e) events

-- the least time of events, or 0
abbrev pub least_time : List Event → ℕ
least_time [] = 0
least_time (e ∷ es) = fold (λ t x. min t x.time) e.time es

-- the number of the path that an update tells, or 0
abbrev pub path_in : Body → ℕ
path_in Start = 0
path_in (Fail w) = 0
path_in (Restore w) = 0
path_in (Swap i j) = 0
path_in (Forbid k) = 0
path_in (Allow k) = 0
path_in (Update q n) = q.0

-- a hash with one more number, by Horner's rule
abbrev pub next_hash : ℕ → ℕ → ℕ
next_hash h n = (h * MULTIPLIER + n) % 2 ^ 64

-- the hash of the paths of spans
unfoldable pub hash_spans : List Span → ℕ
hash_spans spans = fold (λ h s. next_hash h s.rib.0) 0 spans

-- what an event adds to a hash: the square of a hash of its time, its receiver, its sender and its path
unfoldable pub word : Event → ℕ
word e = let h = next_hash (next_hash (next_hash e.time e.dst) e.src) (path_in e.body) in (h * h) % 2 ^ 64

-- the hash of spans and events: a sum over the events
unfoldable pub hash_by : List Span → List Event → ℕ
hash_by spans events = (hash_spans spans + sum_by word events) % 2 ^ 64
