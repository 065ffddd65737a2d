-- A router uses the best path that its neighbours offer, the origin once it has started.
use Rattle.std.proofs.Common.{arith, ◌≡◌, ℕ, suc, zero, ◌+◌, ◌==◌, Bool, true, false, not, ◌||◌, List, [], ◌∷◌, map, get_or, set, None, refl, ap, sym, ◌∙◌, subst, inl, inr}
use Rattle.std.specs.List.{find, list_any}
use Rattle.std.proofs.lemmas.Bool.{cases_Bool, and_parts, and_right, ne_eqb}
use Rattle.tw_event.specs.declared.event.Body.{Body}
use Rattle.tw_event.specs.declared.event.Body.TheVariants.{Start, Fail, Restore, Swap, Forbid, Allow, Update}
use Rattle.tw_event.specs.declared.event.Event.{Event}
use Rattle.tw_event.specs.declared.event.PathNo.{PathNo}
use Rattle.tw_model.specs.declared.net.Hop.{Hop}
use Rattle.tw_model.specs.declared.state.Row.{Row}
use Rattle.tw_model.specs.Net.{Net, empty_path}
use Rattle.tw_model.specs.State.{State, best, fresh_row, has_peer, is_barred, is_choice, offers, opening, row, slot}
use Rattle.tw_model.specs.Effect.{acts, accepts, body_suits, effect, with_bar, with_failed_link, with_heard, with_repaired_link, settle, with_swap}
use Rattle.tw_sim.specs.Simulation.{state}
use Rattle.tw_model.specs.Case.{Case, opening_event, simulation}
use Rattle.tw_sim.proofs.Members.{In, find_agree}
use Rattle.tw_model.proofs.LinkHeard.{agree_along, row_state, state_home}
use Rattle.tw_model.proofs.LinkLast.{IsHistory, older_history}

-- after settling, a router uses the best path
settle_best : (net : Net) (v t : ℕ) (s : State) → (settle net v t s).state.rib ≡ best net v (settle net v t s).state
settle_best net v t s = grind arith

-- a write of what passes where it stood leaves whether any passes
any_set : {X : Type 0} (p : X → Bool) (xs : List X) (k : ℕ) (y d : X) → p y ≡ p (get_or xs k d) → list_any p (set xs k y) ≡ list_any p xs
any_set p [] k y d h = refl
any_set p (x ∷ xs) zero y d h = rw h refl
any_set p (x ∷ xs) (suc k) y d h = ap (λ b. p x || b) (any_set p xs k y d h)

-- a link that comes up offers nothing yet
restored_offers : (net : Net) (v : ℕ) (q : PathNo) (r : Row) → r.up ≡ false → r.heard ≡ empty_path
    → offers net v q (record r { up = true; session = r.session + 1 }) ≡ offers net v q r
restored_offers net v q r down none = rw (down, none) refl

-- nor does it open a choice
restored_choice : (net : Net) (v k : ℕ) (s : State) → (row s k).up ≡ false → (row s k).heard ≡ empty_path → (q : PathNo) → is_choice net v (with_repaired_link s k) q ≡ is_choice net v s q
restored_choice net v k s down none q = grind (arith, not, any_set, restored_offers)

restored_best : (net : Net) (v k : ℕ) (s : State) → (row s k).up ≡ false → (row s k).heard ≡ empty_path → best net v (with_repaired_link s k) ≡ best net v s
restored_best net v k s down none = grind (arith, find_agree, restored_choice)

-- either the router has settled, or nothing that matters has changed
data Settles (net : Net) (v : ℕ) (b : Body) (s after : State) : Type 0 where
  settled : after.rib ≡ best net v after → Settles net v b s after
  kept : after.rib ≡ s.rib → best net v after ≡ best net v s → (b ≡ Start → ⊥) → Settles net v b s after

settles_acts : (net : Net) (v : ℕ) (s : State) (e : Event) (b : Body) → ((w : ℕ) → b ≡ Restore w → (row s (slot net v w)).up ≡ false → (row s (slot net v w)).heard ≡ empty_path)
    → Settles net v b s (acts net v s e b).state
settles_acts net v s e Start none = settled (settle_best net v e.time s)
settles_acts net v s e (Fail x) none =
    elim (cases_Bool (row s (slot net v x)).up) [
      | inl c ↦ rw c (settled (settle_best net v e.time (with_failed_link s (slot net v x))))
      | inr c ↦ rw c (kept refl refl (λ d. cc))
    ]
settles_acts net v s e (Restore x) none =
    elim (cases_Bool (row s (slot net v x)).up) [
      | inl c ↦ rw c (kept refl refl (λ d. cc))
      | inr c ↦ (let best_kept = restored_best net v (slot net v x) s c (none x refl c) in rw c (kept refl best_kept (λ d. cc)))
    ]
settles_acts net v s e (Swap i j) none = settled (settle_best net v e.time (with_swap s i j))
settles_acts net v s e (Forbid k) none =
    elim (cases_Bool (is_barred s k)) [
      | inl c ↦ rw c (kept refl refl (λ d. cc))
      | inr c ↦ rw c (settled (settle_best net v e.time (with_bar s k true)))
    ]
settles_acts net v s e (Allow k) none =
    elim (cases_Bool (is_barred s k)) [
      | inl c ↦ rw c (settled (settle_best net v e.time (with_bar s k false)))
      | inr c ↦ rw c (kept refl refl (λ d. cc))
    ]
settles_acts net v s e (Update q n) none =
    elim (cases_Bool (accepts s (slot net v e.src) n)) [
      | inl c ↦ rw c (settled (settle_best net v e.time (with_heard s (slot net v e.src) q)))
      | inr c ↦ rw c (kept refl refl (λ d. cc))
    ]

settles_effect : (net : Net) (v : ℕ) (s : State) (e : Event) → ((w : ℕ) → e.body ≡ Restore w → (row s (slot net v w)).up ≡ false → (row s (slot net v w)).heard ≡ empty_path)
    → Settles net v e.body s (effect net v s e).state
settles_effect net v s e none = grind (arith, settles_acts)

-- ---- along a history

none_offered : (net : Net) (v : ℕ) (q : PathNo) (hs : List Hop) → list_any (offers net v q) (map fresh_row hs) ≡ false
none_offered net v q [] = refl
none_offered net v q (h ∷ hs) = none_offered net v q hs

find_none : {X : Type 0} (p : X → Bool) (xs : List X) → ((x : X) → p x ≡ false) → find p xs ≡ None
find_none p [] h = refl
find_none p (x ∷ xs) h = rw (h x) (find_none p xs h)

opening_best : (net : Net) (v : ℕ) → (v ≡ 0 → ⊥) → empty_path ≡ best net v (opening net v)
opening_best net v other = grind (arith, ne_eqb, find_none, and_right, not, none_offered)

abbrev pub start : Event
start = opening_event 0 0 0 Start

module _ (case : Case) (v : ℕ) where
  best_step : (e : Event) (h : List Event) (s after : State) → Settles case.net v e.body s after → ((v ≡ 0 → In start h) → s.rib ≡ best case.net v s)
      → (v ≡ 0 → In start (e ∷ h)) → after.rib ≡ best case.net v after
  best_step e h s after (settled is) old started = is
  best_step e h s after (kept rib best_kept other) old started =
      rib ∙ (old (λ z. elim (started z) [ inl is ↦ absurd (other (sym (ap (λ x. x.body) is))) | inr i ↦ i ]) ∙ sym best_kept)

  -- a router's path is its best one; the origin's, once it has started
  pub best_along : (h : List Event) → IsHistory case.net v h → (v ≡ 0 → In start h) → (state (simulation case) v h).rib ≡ best case.net v (state (simulation case) v h)
  best_along [] his started = opening_best case.net v (λ z. started z)
  best_along (e ∷ h) his started =
      let older = older_history case.net v e h his in
      let none = λ (w : ℕ) (is : e.body ≡ Restore w) (down : (row (state (simulation case) v h) (slot case.net v w)).up ≡ false).
      (let suit : body_suits case.net v e (Restore w) ≡ true = subst (λ b. body_suits case.net v e b ≡ true) is (his.suit e (inl refl)) in
      let there = (and_parts (e.src == v) (has_peer case.net v w) suit).1 in
      let same = row_state case v w there h older.home in
      ap (λ r. r.heard) same ∙ (agree_along w h).heard (sym (ap (λ r. r.up) same) ∙ down)) in
      subst (λ s. s.rib ≡ best case.net v s) (sym (state_home case v e h (his.home e (inl refl))))
      (best_step e h (state (simulation case) v h) (effect case.net v (state (simulation case) v h) e).state
      (settles_effect case.net v (state (simulation case) v h) e none) (λ st. best_along h older st) started)
