-- What a record keeps of handling an event (Carothers, Perumalla, Fujimoto 1999).
use Rattle.std.specs.Prelude.{ℕ, ◌≡◌, ◌==◌, Bool, true, not}
use Rattle.tw_event.specs.declared.event.Body.{Body}
use Rattle.tw_event.specs.declared.event.Body.TheVariants.{Start, Fail, Restore, Swap, Forbid, Allow, Update}
use Rattle.tw_event.specs.declared.event.Event.{Event}
use Rattle.tw_event.specs.declared.event.PathNo.{PathNo}
use Rattle.tw_model.specs.Net.{Net, empty_path}
use Rattle.tw_model.specs.State.{IsState, Router, State, is_barred, row, slot}
use Rattle.tw_model.specs.Effect.{accepts, effect, fits}
use Rattle.tw_event.specs.declared.record.UndoRecord.{UndoRecord}

-- whether an event takes effect: it is not dropped, its link not already down or up, its path not already barred or allowed
abbrev pub takes_effect : Net → ℕ → State → Event → Body → Bool
takes_effect net v s e Start = true
takes_effect net v s e (Fail w) = (row s (slot net v w)).up
takes_effect net v s e (Restore w) = not (row s (slot net v w)).up
takes_effect net v s e (Swap i j) = true
takes_effect net v s e (Forbid k) = not (is_barred s k)
takes_effect net v s e (Allow k) = is_barred s k
takes_effect net v s e (Update q n) = accepts s (slot net v e.src) n

-- what was heard before from the neighbour whose link fails or that sent the update
abbrev pub heard_before : Net → ℕ → State → Event → Body → PathNo
heard_before net v s e Start = empty_path
heard_before net v s e (Fail w) = (row s (slot net v w)).heard
heard_before net v s e (Restore w) = empty_path
heard_before net v s e (Swap i j) = empty_path
heard_before net v s e (Forbid k) = empty_path
heard_before net v s e (Allow k) = empty_path
heard_before net v s e (Update q n) = (row s (slot net v e.src)).heard

-- the record of handling e in s
abbrev pub record_of : Net → ℕ → State → Event → UndoRecord
record_of net v s e = record {
  took_effect = takes_effect net v s e e.body;
  changed = not (s.rib.0 == (effect net v s e).state.rib.0);
  rib = s.rib;
  heard = heard_before net v s e e.body;
}

-- the record of handling e at the router
abbrev pub record_at : Router → Event → UndoRecord
record_at r e = record_of r.net r.node r.state e

-- s is a state of router v, e fits it, and handling e in s gave this record and the present state
pub record IsHandled (net : Net) (v : ℕ) (s : State) (e : Event) (u : UndoRecord) (present : State) : Type 0 where
  pub is_state : IsState net v s
  pub fits : fits net v e ≡ true
  pub state : (effect net v s e).state ≡ present
  pub note : record_of net v s e ≡ u

-- handling e in s, with this record, led to the router as it is
abbrev pub CameFrom : Router → Event → UndoRecord → State → Type 0
CameFrom r e u s = IsHandled r.net r.node s e u r.state
