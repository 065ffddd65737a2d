-- The way back from an event: what it led from, and what it sent (Carothers, Perumalla, Fujimoto 1999).
use Rattle.std.specs.Prelude.{ℕ, ◌-◌, true, false, List, [], ◌∷◌, length, if◌then◌else◌}
use Rattle.tw_event.specs.declared.event.Body.{Body}
use Rattle.tw_event.specs.declared.event.Body.TheVariants.{Start, Fail, Restore, Swap, Forbid, Allow, Update}
use Rattle.tw_event.specs.declared.event.Event.{Event}
use Rattle.tw_model.specs.declared.state.Counters.{Counters}
use Rattle.tw_model.specs.Net.{Net}
use Rattle.tw_model.specs.State.{State, hop, row, slot}
use Rattle.tw_model.specs.Effect.{with_bar, with_heard, with_swap, update_to, updates, ups, with_row}
use Rattle.tw_event.specs.declared.record.UndoRecord.{UndoRecord}

-- with the path used before
abbrev pub with_old_rib : State → UndoRecord → State
with_old_rib s u = record s { rib = if u.changed then u.rib else s.rib }

-- the link of slot k is up again, and its path is heard again
abbrev pub with_failure_undone : State → ℕ → UndoRecord → State
with_failure_undone s k u = with_row s k (record (row s k) { up = true; heard = u.heard })

-- the link of slot k is down again, and repaired once less
abbrev pub with_repair_undone : State → ℕ → State
with_repair_undone s k = with_row s k (record (row s k) { up = false; session = (row s k).session - 1 })

-- the rows, the order and the bars before: one equation for each body
abbrev pub with_body_undone : Net → ℕ → State → Event → Body → UndoRecord → State
with_body_undone net v s e Start u = s
with_body_undone net v s e (Fail w) u = if u.took_effect then with_failure_undone s (slot net v w) u else s
with_body_undone net v s e (Restore w) u = if u.took_effect then with_repair_undone s (slot net v w) else s
with_body_undone net v s e (Swap i j) u = with_swap s i j
with_body_undone net v s e (Forbid k) u = if u.took_effect then with_bar s k false else s
with_body_undone net v s e (Allow k) u = if u.took_effect then with_bar s k true else s
with_body_undone net v s e (Update q n) u = if u.took_effect then with_heard s (slot net v e.src) u.heard else s

-- one event fewer is handled
abbrev pub counters_without_event : Counters → Counters
counters_without_event c = record c { handled = c.handled - 1 }

-- nor are a change of path and its updates counted
abbrev pub counters_without_settling : Net → ℕ → State → UndoRecord → Counters
counters_without_settling net v s u =
    if u.changed then record (counters_without_event s.counters) {
      sent = s.counters.sent - length (ups net v s);
      changed = s.counters.changed - 1;
    } else counters_without_event s.counters

-- the counters before: one equation for each body
abbrev pub counters_before : Net → ℕ → State → Body → UndoRecord → Counters
counters_before net v s Start u = counters_without_settling net v s u
counters_before net v s (Fail w) u = counters_without_settling net v s u
counters_before net v s (Restore w) u =
    if u.took_effect then record (counters_without_event s.counters) { sent = s.counters.sent - 1 } else counters_without_event s.counters
counters_before net v s (Swap i j) u = counters_without_settling net v s u
counters_before net v s (Forbid k) u = counters_without_settling net v s u
counters_before net v s (Allow k) u = counters_without_settling net v s u
counters_before net v s (Update q n) u =
    if u.took_effect then counters_without_settling net v s u else record (counters_without_event s.counters) { dropped = s.counters.dropped - 1 }

-- the state that this event with this record led from
abbrev pub state_before : Net → ℕ → State → Event → UndoRecord → State
state_before net v s e u =
    record (with_body_undone net v (with_old_rib s u) e e.body u) { counters = counters_before net v s e.body u }

-- the updates of the present path, where the event had changed it
abbrev pub sends_of_settling : Net → ℕ → ℕ → State → UndoRecord → List Event
sends_of_settling net v t s u = if u.changed then updates net v t s.rib (s.counters.sent - length (ups net v s)) s else []

-- the update to the neighbour whose link an event had repaired
abbrev pub sends_of_repair : Net → ℕ → ℕ → State → ℕ → List Event
sends_of_repair net v t s w = update_to v t s.rib (s.counters.sent - 1) (hop net v (slot net v w)) (row s (slot net v w)) ∷ []

-- what the event sent, read from the state that it left: one equation for each body
abbrev pub sends_again : Net → ℕ → State → Event → Body → UndoRecord → List Event
sends_again net v s e Start u = sends_of_settling net v e.time s u
sends_again net v s e (Fail w) u = sends_of_settling net v e.time s u
sends_again net v s e (Restore w) u = if u.took_effect then sends_of_repair net v e.time s w else []
sends_again net v s e (Swap i j) u = sends_of_settling net v e.time s u
sends_again net v s e (Forbid k) u = sends_of_settling net v e.time s u
sends_again net v s e (Allow k) u = sends_of_settling net v e.time s u
sends_again net v s e (Update q n) u = sends_of_settling net v e.time s u
