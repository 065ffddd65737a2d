-- What a run looks like at a time, without what only counts up and without the time itself (own).
use Rattle.std.specs.Prelude.{ℕ, ◌≡◌, ◌≤◌, ◌+◌, ◌-◌, ◌*◌, ◌==◌, Bool, false, true, not, ◌&&◌, List, length, map, if◌then◌else◌}
use Rattle.std.specs.List.{All, list_all, range_with_len}
use Rattle.tw_event.specs.declared.event.Body.{Body}
use Rattle.tw_event.specs.declared.event.Body.TheVariants.{Start, Fail, Restore, Swap, Forbid, Allow, Update}
use Rattle.tw_event.specs.declared.event.Event.{Event}
use Rattle.tw_event.specs.declared.event.PathNo.{PathNo}
use Rattle.tw_model.specs.declared.state.Row.{Row}
use Rattle.tw_model.specs.Case.{Case, simulation}
use Rattle.tw_model.specs.State.{State}
use Rattle.tw_sim.specs.Seq.{at, rest}

-- a router without its counters
pub record RouterShape : Type 0 where
  pub rib : PathNo
  pub rows : List Row
  pub order : List PathNo
  pub barred : List Bool

-- the routers in ascending order, and the pending events in their order, each as it is seen from that time
pub record Shape : Type 0 where
  pub routers : List RouterShape
  pub pending : List Event

-- a state without its counters
abbrev pub bare : State → RouterShape
bare s = record { rib = s.rib; rows = s.rows; order = s.order; barred = s.barred }

-- whether a body is an update; every other event is an opening one
abbrev pub is_update : Body → Bool
is_update Start = false
is_update (Fail w) = false
is_update (Restore w) = false
is_update (Swap i j) = false
is_update (Forbid k) = false
is_update (Allow k) = false
is_update (Update q n) = true

-- an event seen from time t, when its sender has sent n messages: in how many ticks it is handled, and of an update how many
-- messages ago it was sent
abbrev pub seen_from : ℕ → ℕ → Event → Event
seen_from t n e = record e { time = e.time - t; seq = if is_update e.body then n - e.seq else e.seq }

-- the shape of the run at time t, when all events before t are handled
abbrev pub shape : Case → ℕ → Shape
shape case t = record {
  routers = map (λ r. bare (at (simulation case) t r)) (range_with_len 0 case.net.nodes);
  pending = map (λ e. seen_from t (at (simulation case) t e.src).counters.sent e) (rest (simulation case) t);
}

-- an event, so many ticks closer
abbrev pub sooner : ℕ → Event → Event
sooner d e = record e { time = e.time - d }

-- the shape so many ticks later, where nothing is handled meanwhile
abbrev pub later : ℕ → Shape → Shape
later d s = record s { pending = map (sooner d) s.pending }

-- nothing pending is to be handled less than so many ticks from then
abbrev pub IsStill : ℕ → Shape → Type 0
IsStill d s = All (λ e. d ≤ e.time) s.pending

-- whether events are pending, none of them an opening event
abbrev pub can_repeat : Shape → Bool
can_repeat s = not (length s.pending == 0) && list_all (λ e. is_update e.body) s.pending

-- from time a on, the shape comes again every p ticks
abbrev pub Repeats : Case → ℕ → ℕ → Type 0
Repeats case a p = (n : ℕ) → shape case (a + n * p) ≡ shape case a

-- routers as they are gathered for a shape at this time, with how many messages each has sent
pub record Draft : Type 0 where
  pub time : ℕ
  pub routers : List RouterShape
  pub sent : List ℕ
