-- What a router keeps of one neighbour, event by event; and that its path is the best one.
use Rattle.std.proofs.Common.{◌≡◌, ℕ, ◌+◌, ◌==◌, true, false, ◌&&◌, [], length, get_or, refl, ap, sym, ◌∙◌, ◌⊎◌, inl, inr, arith, if◌then◌else◌}
use Rattle.std.proofs.lemmas.Bool.{cases_Bool, cases_eq, eq-eqb, ltb-true, lt-ltb, ne_eqb}
use Rattle.std.proofs.lemmas.List.{get_or-set_same, get_or-set_other, length-set}
use Rattle.tw_event.specs.declared.event.Body.{Body}
use Rattle.tw_event.specs.declared.event.Body.TheVariants.{Start, Fail, Restore, Swap, Forbid, Allow, Update}
use Rattle.tw_event.specs.declared.event.Event.{Event}
use Rattle.tw_model.specs.declared.state.Row.{Row}
use Rattle.tw_model.specs.Net.{Net, empty_path, hops_of}
use Rattle.tw_model.specs.State.{State, best, has_peer, hop, no_row, row, slot}
use Rattle.tw_model.specs.Effect.{acts, accepts, with_dropped, effect, with_heard, settle, with_swap, with_row}
use Rattle.tw_model.proofs.Nets.{hop_slot}

-- what an event with this sender and body makes of the row for neighbour w
abbrev pub row_after : ℕ → ℕ → Body → Row → Row
row_after w s Start r = r
row_after w s (Fail x) r = if x == w then (if r.up then record r { up = false; heard = empty_path } else r) else r
row_after w s (Restore x) r = if x == w then (if r.up then r else record r { up = true; session = r.session + 1 }) else r
row_after w s (Swap i j) r = r
row_after w s (Forbid k) r = r
row_after w s (Allow k) r = r
row_after w s (Update q n) r = if s == w then (if r.up && r.session == n then record r { heard = q } else r) else r

settle_rows : (net : Net) (v t : ℕ) (s : State) → (settle net v t s).state.rows ≡ s.rows
settle_rows net v t s = elim (cases_Bool (s.rib.0 == (best net v s).0)) [ inl b ↦ rw b refl | inr b ↦ rw b refl ]

-- a router keeps one row for each neighbour
acts_rows : (net : Net) (v : ℕ) (s : State) (e : Event) (b : Body) → length (acts net v s e b).state.rows ≡ length s.rows
acts_rows net v s e Start = ap length (settle_rows net v e.time s)
acts_rows net v s e (Fail x) = grind (arith, cases_Bool, settle_rows, length-set)
acts_rows net v s e (Restore x) = grind (arith, cases_Bool, length-set)
acts_rows net v s e (Swap i j) = ap length (settle_rows net v e.time (with_swap s i j))
acts_rows net v s e (Forbid k) = grind arith
acts_rows net v s e (Allow k) = grind arith
acts_rows net v s e (Update q n) = grind (arith, cases_Bool, settle_rows, length-set)

pub effect_rows : (net : Net) (v : ℕ) (s : State) (e : Event) → length (effect net v s e).state.rows ≡ length s.rows
effect_rows net v s e = acts_rows net v s e e.body

module _ (net : Net) (v w : ℕ) (there : has_peer net v w ≡ true) where
  -- no other neighbour has the slot of w
  pub slot_other : (x : ℕ) → slot net v x ≡ slot net v w → x ≡ w
  slot_other x e =
      let below = ltb-true (slot net v w) (length (hops_of net v)) there in
      let x_there : has_peer net v x ≡ true = lt-ltb (slot net v x) (length (hops_of net v)) (omega arith) in
      sym (hop_slot net v x x_there) ∙ (ap (λ k. (hop net v k).peer) e ∙ hop_slot net v w there)

  pub row_other : (s : State) (x : ℕ) (r : Row) → (x ≡ w → ⊥) → row (with_row s (slot net v x) r) (slot net v w) ≡ row s (slot net v w)
  row_other s x r d = get_or-set_other s.rows (slot net v x) (slot net v w) r no_row (λ e. d (slot_other x (sym e)))

  pub row_same : (s : State) (r : Row) → length s.rows ≡ length (hops_of net v) → row (with_row s (slot net v w) r) (slot net v w) ≡ r
  row_same s r full = grind (arith, ltb-true, get_or-set_same)

  pub settled : (t : ℕ) (s : State) → row (settle net v t s).state (slot net v w) ≡ row s (slot net v w)
  settled t s = ap (λ rows. get_or rows (slot net v w) no_row) (settle_rows net v t s)

  row_fail : (s : State) (e : Event) → length s.rows ≡ length (hops_of net v) → (x : ℕ) → (x ≡ w) ⊎ (x ≡ w → ⊥)
      → row (acts net v s e (Fail x)).state (slot net v w) ≡ row_after w e.src (Fail x) (row s (slot net v w))
  row_fail s e full x (inl is) = grind (arith, eq-eqb, cases_Bool, settled, row_same)
  row_fail s e full x (inr d) = grind (arith, ne_eqb, cases_Bool, settled, row_other)

  row_restore : (s : State) (e : Event) → length s.rows ≡ length (hops_of net v) → (x : ℕ) → (x ≡ w) ⊎ (x ≡ w → ⊥)
      → row (acts net v s e (Restore x)).state (slot net v w) ≡ row_after w e.src (Restore x) (row s (slot net v w))
  row_restore s e full x (inl is) = grind (arith, eq-eqb, cases_Bool, row_same)
  row_restore s e full x (inr d) = grind (arith, ne_eqb, cases_Bool, row_other)

  row_update : (s : State) (e : Event) → length s.rows ≡ length (hops_of net v) → (q : _) (n x : ℕ) → (x ≡ w) ⊎ (x ≡ w → ⊥)
      → row (if accepts s (slot net v x) n then settle net v e.time (with_heard s (slot net v x) q) else record { state = with_dropped s; sends = [] }).state (slot net v w)
      ≡ row_after w x (Update q n) (row s (slot net v w))
  row_update s e full q n x (inl is) = grind (arith, eq-eqb, cases_Bool, settled, row_same)
  row_update s e full q n x (inr d) = grind (arith, ne_eqb, cases_Bool, settled, row_other)

  row_acts : (s : State) (e : Event) (b : Body) → length s.rows ≡ length (hops_of net v) → row (acts net v s e b).state (slot net v w) ≡ row_after w e.src b (row s (slot net v w))
  row_acts s e Start full = settled e.time s
  row_acts s e (Fail x) full = row_fail s e full x (cases_eq x w)
  row_acts s e (Restore x) full = row_restore s e full x (cases_eq x w)
  row_acts s e (Swap i j) full = settled e.time (with_swap s i j)
  row_acts s e (Forbid k) full = grind arith
  row_acts s e (Allow k) full = grind arith
  row_acts s e (Update q n) full = row_update s e full q n e.src (cases_eq e.src w)

  -- the row for w after an event
  pub row_effect : (s : State) (e : Event) → length s.rows ≡ length (hops_of net v) → row (effect net v s e).state (slot net v w) ≡ row_after w e.src e.body (row s (slot net v w))
  row_effect s e full = row_acts s e e.body full
