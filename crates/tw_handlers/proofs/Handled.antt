-- What the present state and a record tell of the event that was handled.
use Rattle.std.proofs.Common.{◌≡◌, ℕ, sym, ap₂, ◌∙◌, subst}
use Rattle.tw_event.specs.declared.event.Event.{Event}
use Rattle.tw_model.specs.Net.{Net}
use Rattle.tw_model.specs.State.{IsState, State}
use Rattle.tw_model.specs.Effect.{effect}
use Rattle.tw_event.specs.declared.record.UndoRecord.{UndoRecord}
use Rattle.tw_handlers.specs.Record.{IsHandled}
use Rattle.tw_handlers.specs.Undo.{state_before, sends_again}
use Rattle.tw_handlers.proofs.Before.{state_before-effect, sends_again-effect}

-- the state before
pub state_before-handled : (net : Net) (v : ℕ) (s : State) (e : Event) (u : UndoRecord) (present : State)
    → IsHandled net v s e u present → state_before net v present e u ≡ s
state_before-handled net v s e u present h =
    ap₂ (λ x y. state_before net v x e y) (sym h.state) (sym h.note) ∙ state_before-effect net v s e h.is_state h.fits

pub IsState-before : (net : Net) (v : ℕ) (s : State) (e : Event) (u : UndoRecord) (present : State)
    → IsHandled net v s e u present → IsState net v (state_before net v present e u)
IsState-before net v s e u present h = subst (IsState net v) (sym (state_before-handled net v s e u present h)) h.is_state

-- what it sent
pub sends_again-handled : (net : Net) (v : ℕ) (s : State) (e : Event) (u : UndoRecord) (present : State)
    → IsHandled net v s e u present → sends_again net v present e e.body u ≡ (effect net v s e).sends
sends_again-handled net v s e u present h =
    ap₂ (λ x y. sends_again net v x e e.body y) (sym h.state) (sym h.note) ∙ sends_again-effect net v s e
