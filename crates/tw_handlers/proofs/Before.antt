-- The way back leads back: what the event led from, and what it sent.
use Rattle.std.proofs.Common.{◌≡◌, ℕ, ◌+◌, ◌-◌, ◌<◌, ◌≤◌, ◌==◌, ◌&&◌, Bool, true, false, not, [], ◌∷◌, length, sym, ap, ◌∙◌, refl, subst, arith, leb}
use Rattle.std.proofs.lemmas.Bool.{and_parts, eq-eqb, leb-true, ltb-true}
use Rattle.tw_event.specs.declared.event.Body.{Body}
use Rattle.tw_event.specs.declared.event.Body.TheVariants.{Start, Fail, Restore, Swap, Forbid, Allow, Update}
use Rattle.tw_event.specs.declared.event.Event.{Event}
use Rattle.tw_event.specs.declared.event.PathNo.{PathNo}
use Rattle.tw_model.specs.declared.state.Counters.{Counters}
use Rattle.tw_model.specs.declared.state.Row.{Row}
use Rattle.tw_model.specs.Net.{Net, empty_path, is_permitted, paths_of}
use Rattle.tw_model.specs.Rules.{has_place}
use Rattle.tw_model.specs.State.{IsState, State, best, has_peer, hop, is_barred, row, slot}
use Rattle.tw_model.specs.Effect.{accepts, acts, body_suits, with_handled, effect, with_failed_link, fits, with_heard, with_repaired_link, settle, with_bar, with_swap, update_to, updates, ups}
use Rattle.tw_event.specs.declared.record.UndoRecord.{UndoRecord}
use Rattle.tw_handlers.specs.Record.{heard_before, record_of, takes_effect}
use Rattle.tw_handlers.specs.Undo.{state_before, counters_before, with_body_undone, sends_again, sends_of_settling, counters_without_event, with_failure_undone, with_repair_undone, counters_without_settling, with_old_rib}
use Rattle.tw_model.proofs.Suits.{body_suits-fits}
use Rattle.tw_handlers.proofs.Rows.{back-row, row-with_row, with_bar-with_bar, with_swap-with_swap}

back : (a b : ℕ) → a + b - b ≡ a
back a b = omega arith

counters-back : (c : Counters) (n : ℕ)
    → record c { sent = c.sent + n - n; handled = c.handled + 1 - 1; changed = c.changed + 1 - 1 } ≡ c
counters-back c n = rw (back c.sent n, back c.handled 1, back c.changed 1) refl

counters_without_event-back : (c : Counters) → counters_without_event (record c { handled = c.handled + 1 }) ≡ c
counters_without_event-back c = rw (back c.handled 1) refl

-- a record as settling in s leaves it
abbrev settled_record : Net → ℕ → ℕ → State → Bool → PathNo → UndoRecord
settled_record net v t s k h = record {
  took_effect = k;
  changed = not (s.rib.0 == (settle net v t s).state.rib.0);
  rib = s.rib;
  heard = h;
}

-- the way back from settling
abbrev settled_back : Net → ℕ → State → UndoRecord → State
settled_back net v s u = record (with_old_rib s u) { counters = counters_without_settling net v s u }

back-settled : (net : Net) (v t : ℕ) (s : State) (k : Bool) (h : PathNo) (b : Bool) → (s.rib.0 == (best net v s).0) ≡ b
    → settled_back net v (with_handled (settle net v t s).state) (settled_record net v t s k h) ≡ s
back-settled net v t s k h true is =
    rw is (rw (eq-eqb s.rib.0 s.rib.0 refl) (ap (λ c. record s { counters = c }) (counters_without_event-back s.counters)))
back-settled net v t s k h false is =
    rw is (rw is (ap (λ c. record s { counters = c }) (counters-back s.counters (length (ups net v s)))))

back-settle : (net : Net) (v t : ℕ) (s : State) (k : Bool) (h : PathNo)
    → settled_back net v (with_handled (settle net v t s).state) (settled_record net v t s k h) ≡ s
back-settle net v t s k h = back-settled net v t s k h (s.rib.0 == (best net v s).0) refl

again-settled : (net : Net) (v t : ℕ) (s : State) (k : Bool) (h : PathNo) (b : Bool) → (s.rib.0 == (best net v s).0) ≡ b
    → sends_of_settling net v t (settle net v t s).state (settled_record net v t s k h) ≡ (settle net v t s).sends
again-settled net v t s k h true is = rw is (rw (eq-eqb s.rib.0 s.rib.0 refl) refl)
again-settled net v t s k h false is =
    rw is (rw is (ap (λ n. updates net v t (best net v s) n s) (back s.counters.sent (length (ups net v s)))))

again-settle : (net : Net) (v t : ℕ) (s : State) (k : Bool) (h : PathNo)
    → sends_of_settling net v t (settle net v t s).state (settled_record net v t s k h) ≡ (settle net v t s).sends
again-settle net v t s k h = again-settled net v t s k h (s.rib.0 == (best net v s).0) refl

-- the record of one body, handled aside
abbrev note : Net → ℕ → State → Event → Body → UndoRecord
note net v s e b = record {
  took_effect = takes_effect net v s e b;
  changed = not (s.rib.0 == (acts net v s e b).state.rib.0);
  rib = s.rib;
  heard = heard_before net v s e b;
}

with_failure_undone-with_failed_link : (s : State) (k : ℕ) (u : UndoRecord) → k < length s.rows → (row s k).up ≡ true → u.heard ≡ (row s k).heard → with_failure_undone (with_failed_link s k) k u ≡ s
with_failure_undone-with_failed_link s k u h up heard =
    back-row s k _ _ (ap (λ (r : Row). record r { up = true; heard = u.heard }) (row-with_row s k _ h)
    ∙ (ap (λ p. record (row s k) { up = true; heard = p }) heard ∙ ap (λ b. record (row s k) { up = b }) (sym up)))

with_repair_undone-with_repaired_link : (s : State) (k : ℕ) → k < length s.rows → (row s k).up ≡ false → with_repair_undone (with_repaired_link s k) k ≡ s
with_repair_undone-with_repaired_link s k h up =
    back-row s k _ _ (ap (λ (r : Row). record r { up = false; session = r.session - 1 }) (row-with_row s k _ h)
    ∙ (ap (λ n. record (row s k) { up = false; session = n }) (back (row s k).session 1) ∙ ap (λ b. record (row s k) { up = b }) (sym up)))

-- another path heard, and the old one heard again
pub with_heard-with_heard : (s : State) (k : ℕ) (q : PathNo) → k < length s.rows → with_heard (with_heard s k q) k (row s k).heard ≡ s
with_heard-with_heard s k q h = back-row s k _ _ (ap (λ (r : Row). record r { heard = (row s k).heard }) (row-with_row s k _ h))

pub has_slot : (net : Net) (v : ℕ) (s : State) (w : ℕ) → IsState net v s → has_peer net v w ≡ true → slot net v w < length s.rows
has_slot net v s w state h = subst (λ n. slot net v w < n) (sym state.hops) (ltb-true _ _ h)

has_order : (net : Net) (v : ℕ) (s : State) (i : ℕ) → IsState net v s → has_place net v i ≡ true → i - 1 < length s.order
has_order net v s i state h =
    let p = and_parts (leb 1 i) (leb i (length (paths_of net v))) h in
    let low : 1 ≤ i = leb-true 1 i p.0 in
    let high : i ≤ length (paths_of net v) = leb-true i _ p.1 in
    let n : length s.order ≡ length (paths_of net v) = state.places in omega arith

-- the way back from one body
abbrev back_by : Net → ℕ → State → Event → Body → UndoRecord → State
back_by net v s e b u =
    record (with_body_undone net v (with_old_rib s u) e b u) { counters = counters_before net v s b u }

-- where the event did nothing
quiet-back : (net : Net) (v : ℕ) (s : State) → record s { counters = counters_without_event (with_handled s).counters } ≡ s
quiet-back net v s = ap (λ c. record s { counters = c }) (counters_without_event-back s.counters)

fail-back : (net : Net) (v : ℕ) (s : State) (e : Event) (w : ℕ) (b : Bool) → (row s (slot net v w)).up ≡ b → slot net v w < length s.rows
    → back_by net v (with_handled (acts net v s e (Fail w)).state) e (Fail w) (note net v s e (Fail w)) ≡ s
fail-back net v s e w true up h =
    rw up (let k = slot net v w in
    let u = settled_record net v e.time (with_failed_link s k) true (row s k).heard in
    ap (λ x. with_failure_undone x k u) (back-settle net v e.time (with_failed_link s k) true (row s k).heard) ∙ with_failure_undone-with_failed_link s k u h up refl)
fail-back net v s e w false up h = rw up (rw (eq-eqb s.rib.0 s.rib.0 refl) (quiet-back net v s))

restore-counters : (c : Counters) → record (counters_without_event (record c { sent = c.sent + 1; handled = c.handled + 1 })) { sent = c.sent + 1 - 1 } ≡ c
restore-counters c = rw (back c.sent 1, back c.handled 1) refl

restore-back : (net : Net) (v : ℕ) (s : State) (e : Event) (w : ℕ) (b : Bool) → (row s (slot net v w)).up ≡ b → slot net v w < length s.rows
    → back_by net v (with_handled (acts net v s e (Restore w)).state) e (Restore w) (note net v s e (Restore w)) ≡ s
restore-back net v s e w true up h = rw up (rw (eq-eqb s.rib.0 s.rib.0 refl) (quiet-back net v s))
restore-back net v s e w false up h =
    rw up (rw (eq-eqb s.rib.0 s.rib.0 refl) (let k = slot net v w in
    ap (λ c. record (with_repair_undone (with_repaired_link s k) k) { counters = c }) (restore-counters s.counters) ∙ with_repair_undone-with_repaired_link s k h up))

dropped-counters : (c : Counters) → record (counters_without_event (record c { handled = c.handled + 1; dropped = c.dropped + 1 })) { dropped = c.dropped + 1 - 1 } ≡ c
dropped-counters c = rw (back c.handled 1, back c.dropped 1) refl

update-back : (net : Net) (v : ℕ) (s : State) (e : Event) (q : PathNo) (n : ℕ) (b : Bool) → accepts s (slot net v e.src) n ≡ b → slot net v e.src < length s.rows
    → back_by net v (with_handled (acts net v s e (Update q n)).state) e (Update q n) (note net v s e (Update q n)) ≡ s
update-back net v s e q n true is h =
    rw is (let k = slot net v e.src in
    let u = settled_record net v e.time (with_heard s k q) true (row s k).heard in
    ap (λ x. with_heard x k u.heard) (back-settle net v e.time (with_heard s k q) true (row s k).heard) ∙ with_heard-with_heard s k q h)
update-back net v s e q n false is h =
    rw is (rw (eq-eqb s.rib.0 s.rib.0 refl) (ap (λ c. record s { counters = c }) (dropped-counters s.counters)))

swap-back : (net : Net) (v : ℕ) (s : State) (e : Event) (i j : ℕ) → i - 1 < length s.order → j - 1 < length s.order
    → back_by net v (with_handled (acts net v s e (Swap i j)).state) e (Swap i j) (note net v s e (Swap i j)) ≡ s
swap-back net v s e i j hi hj =
    ap (λ x. with_swap x i j) (back-settle net v e.time (with_swap s i j) true empty_path) ∙ with_swap-with_swap s i j hi hj

forbid-back : (net : Net) (v : ℕ) (s : State) (e : Event) (k : ℕ) (b : Bool) → is_barred s k ≡ b
    → back_by net v (with_handled (acts net v s e (Forbid k)).state) e (Forbid k) (note net v s e (Forbid k)) ≡ s
forbid-back net v s e k true is = rw is (rw (eq-eqb s.rib.0 s.rib.0 refl) (quiet-back net v s))
forbid-back net v s e k false is =
    rw is (ap (λ x. with_bar x k false) (back-settle net v e.time (with_bar s k true) true empty_path) ∙ with_bar-with_bar s k true false (sym is))

allow-back : (net : Net) (v : ℕ) (s : State) (e : Event) (k : ℕ) (b : Bool) → is_barred s k ≡ b
    → back_by net v (with_handled (acts net v s e (Allow k)).state) e (Allow k) (note net v s e (Allow k)) ≡ s
allow-back net v s e k true is =
    rw is (ap (λ x. with_bar x k true) (back-settle net v e.time (with_bar s k false) true empty_path) ∙ with_bar-with_bar s k false true (sym is))
allow-back net v s e k false is = rw is (rw (eq-eqb s.rib.0 s.rib.0 refl) (quiet-back net v s))

acts-back : (net : Net) (v : ℕ) (s : State) (e : Event) (b : Body) → IsState net v s → body_suits net v e b ≡ true
    → back_by net v (with_handled (acts net v s e b).state) e b (note net v s e b) ≡ s
acts-back net v s e Start state h = back-settle net v e.time s true empty_path
acts-back net v s e (Fail w) state h =
    let p = and_parts _ (has_peer net v w) h in fail-back net v s e w (row s (slot net v w)).up refl (has_slot net v s w state p.1)
acts-back net v s e (Restore w) state h =
    let p = and_parts _ (has_peer net v w) h in restore-back net v s e w (row s (slot net v w)).up refl (has_slot net v s w state p.1)
acts-back net v s e (Swap i j) state h =
    let p = and_parts _ (has_place net v i && has_place net v j) h in
    let q = and_parts (has_place net v i) (has_place net v j) p.1 in
    swap-back net v s e i j (has_order net v s i state q.0) (has_order net v s j state q.1)
acts-back net v s e (Forbid k) state h = forbid-back net v s e k (is_barred s k) refl
acts-back net v s e (Allow k) state h = allow-back net v s e k (is_barred s k) refl
acts-back net v s e (Update q n) state h =
    let p = and_parts (has_peer net v e.src) (is_permitted net e.src q) h in
    update-back net v s e q n (accepts s (slot net v e.src) n) refl (has_slot net v s e.src state p.0)

-- from the state that an event left, its record leads back to the state before
pub state_before-effect : (net : Net) (v : ℕ) (s : State) (e : Event) → IsState net v s → fits net v e ≡ true
    → state_before net v (effect net v s e).state e (record_of net v s e) ≡ s
state_before-effect net v s e state h = acts-back net v s e e.body state (body_suits-fits net v e h)

fail-again : (net : Net) (v : ℕ) (s : State) (e : Event) (w : ℕ) (b : Bool) → (row s (slot net v w)).up ≡ b
    → sends_again net v (acts net v s e (Fail w)).state e (Fail w) (note net v s e (Fail w)) ≡ (acts net v s e (Fail w)).sends
fail-again net v s e w true up =
    rw up (again-settle net v e.time (with_failed_link s (slot net v w)) true (row s (slot net v w)).heard)
fail-again net v s e w false up = rw up (rw (eq-eqb s.rib.0 s.rib.0 refl) refl)

restore-again : (net : Net) (v : ℕ) (s : State) (e : Event) (w : ℕ) (b : Bool) → (row s (slot net v w)).up ≡ b
    → sends_again net v (acts net v s e (Restore w)).state e (Restore w) (note net v s e (Restore w)) ≡ (acts net v s e (Restore w)).sends
restore-again net v s e w true up = rw up refl
restore-again net v s e w false up =
    rw up (let k = slot net v w in ap (λ n. update_to v e.time s.rib n (hop net v k) (row (with_repaired_link s k) k) ∷ []) (back s.counters.sent 1))

update-again : (net : Net) (v : ℕ) (s : State) (e : Event) (q : PathNo) (n : ℕ) (b : Bool) → accepts s (slot net v e.src) n ≡ b
    → sends_again net v (acts net v s e (Update q n)).state e (Update q n) (note net v s e (Update q n)) ≡ (acts net v s e (Update q n)).sends
update-again net v s e q n true is =
    rw is (again-settle net v e.time (with_heard s (slot net v e.src) q) true (row s (slot net v e.src)).heard)
update-again net v s e q n false is = rw is (rw (eq-eqb s.rib.0 s.rib.0 refl) refl)

forbid-again : (net : Net) (v : ℕ) (s : State) (e : Event) (k : ℕ) (b : Bool) → is_barred s k ≡ b
    → sends_again net v (acts net v s e (Forbid k)).state e (Forbid k) (note net v s e (Forbid k)) ≡ (acts net v s e (Forbid k)).sends
forbid-again net v s e k true is = rw is (rw (eq-eqb s.rib.0 s.rib.0 refl) refl)
forbid-again net v s e k false is = rw is (again-settle net v e.time (with_bar s k true) true empty_path)

allow-again : (net : Net) (v : ℕ) (s : State) (e : Event) (k : ℕ) (b : Bool) → is_barred s k ≡ b
    → sends_again net v (acts net v s e (Allow k)).state e (Allow k) (note net v s e (Allow k)) ≡ (acts net v s e (Allow k)).sends
allow-again net v s e k true is = rw is (again-settle net v e.time (with_bar s k false) true empty_path)
allow-again net v s e k false is = rw is (rw (eq-eqb s.rib.0 s.rib.0 refl) refl)

acts-again : (net : Net) (v : ℕ) (s : State) (e : Event) (b : Body) → sends_again net v (acts net v s e b).state e b (note net v s e b) ≡ (acts net v s e b).sends
acts-again net v s e Start = again-settle net v e.time s true empty_path
acts-again net v s e (Fail w) = fail-again net v s e w (row s (slot net v w)).up refl
acts-again net v s e (Restore w) = restore-again net v s e w (row s (slot net v w)).up refl
acts-again net v s e (Swap i j) = again-settle net v e.time (with_swap s i j) true empty_path
acts-again net v s e (Forbid k) = forbid-again net v s e k (is_barred s k) refl
acts-again net v s e (Allow k) = allow-again net v s e k (is_barred s k) refl
acts-again net v s e (Update q n) = update-again net v s e q n (accepts s (slot net v e.src) n) refl

counted-again : (net : Net) (v : ℕ) (s : State) (e : Event) (b : Body) (u : UndoRecord) → sends_again net v (with_handled s) e b u ≡ sends_again net v s e b u
counted-again net v s e Start u = refl
counted-again net v s e (Fail w) u = refl
counted-again net v s e (Restore w) u = refl
counted-again net v s e (Swap i j) u = refl
counted-again net v s e (Forbid k) u = refl
counted-again net v s e (Allow k) u = refl
counted-again net v s e (Update q n) u = refl

-- from the state that an event left, its record leads back to what it sent
pub sends_again-effect : (net : Net) (v : ℕ) (s : State) (e : Event) → sends_again net v (effect net v s e).state e e.body (record_of net v s e) ≡ (effect net v s e).sends
sends_again-effect net v s e = counted-again net v (acts net v s e e.body).state e e.body (record_of net v s e) ∙ acts-again net v s e e.body
