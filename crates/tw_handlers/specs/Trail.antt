-- A router with the events that it handled, oldest first (Jefferson 1985).
use Rattle.std.specs.Prelude.{ℕ, ◌≡◌, List, [], ◌∷◌, map}
use Rattle.tw_event.specs.declared.event.Event.{Event}
use Rattle.tw_model.specs.Net.{Net}
use Rattle.tw_model.specs.State.{Router, State}
use Rattle.tw_model.specs.Effect.{effect}
use Rattle.tw_model.specs.History.{state_after, undone}
use Rattle.tw_handlers.specs.declared.trail.Done.{Done}
use Rattle.tw_handlers.specs.Record.{IsHandled}
use Rattle.tw_handlers.specs.Undo.{state_before}

-- the router as it was before all of its events, and these
pub record History : Type 0 where
  pub opening : Router
  pub events : List Event

-- the events of these steps
abbrev pub handled_events : List Done → List Event
handled_events steps = map (λ d. d.event) steps

-- the state that the records of these events lead back to from the present one
abbrev pub state_at_start : Net → ℕ → State → List Done → State
state_at_start net v present [] = present
state_at_start net v present (d ∷ steps) = state_before net v (state_at_start net v present steps) d.event d.note

-- handling these events one after another led from s, with these records, to the present state
abbrev pub Leads : Net → ℕ → State → List Done → State → Type 0
Leads net v s [] present = s ≡ present
Leads net v s (d ∷ steps) present =
    IsHandled net v s d.event d.note (effect net v s d.event).state × Leads net v (effect net v s d.event).state steps present

-- a router whose records of these events lead back to where handling them began
abbrev pub IsTrail : Router → List Done → Type 0
IsTrail router steps = Leads router.net router.node (state_at_start router.net router.node router.state steps) steps router.state

-- the trail of a router and the steps that led to it
abbrev pub history_of : Router → List Done → History
history_of router steps = record {
  opening = record router { state = state_at_start router.net router.node router.state steps };
  events = handled_events steps;
}

-- the router after the events of the trail
abbrev pub router_of : History → Router
router_of t = record t.opening { state = state_after t.opening.net t.opening.node t.opening.state t.events }

-- what undoing the events of the trail past the first n takes back
abbrev pub undone_of : History → ℕ → List Event
undone_of t n = undone t.opening.net t.opening.node t.opening.state t.events n
