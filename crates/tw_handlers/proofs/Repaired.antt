-- A link that is repaired.
use Rattle.std.proofs.Common.{◌≡◌, ◌+◌, ◌<◌, ◌++◌, ℕ, true, false, List, [], ◌∷◌, length, ap, ap₂, subst, sym, ◌∙◌, arith, get_or, if◌then◌else◌}
use Rattle.std.proofs.lemmas.List.{get_or_default}
use Rattle.std.proofs.lemmas.Bool.{false≢true}
use Rattle.std.specs.Prelude.{Ok, is_ok}
use Rattle.tw_event.specs.declared.event.Body.TheVariants.{Restore}
use Rattle.tw_event.specs.declared.event.Event.{Event}
use Rattle.tw_event.specs.declared.event.PathNo.{PathNo}
use Rattle.tw_model.specs.declared.limits.TheConstants.{MOST_COUNTED}
use Rattle.tw_model.specs.declared.net.Hop.{Hop}
use Rattle.tw_model.specs.declared.state.Counters.{Counters}
use Rattle.tw_model.specs.declared.state.Row.{Row}
use Rattle.tw_model.specs.Net.{Net}
use Rattle.tw_model.specs.State.{IsState, Router, has_peer, hop, no_hop, row, slot}
use Rattle.tw_model.specs.Effect.{Reaction, tell, update_to, with_repaired_link, with_row, without_sends}
use Rattle.tw_event.specs.declared.record.UndoRecord.{UndoRecord}
use Rattle.tw_handlers.specs.Calls.{Reacts, effect_at, with_count}
use Rattle.tw_handlers.proofs.Before.{has_slot}
use Rattle.tw_handlers.proofs.Reacting.{body_does}
use Rattle.tw_handlers.proofs.Rows.{row-with_row}

-- the row once its link is repaired
abbrev pub repaired_row : Row → Row
repaired_row r = record r { up = true; session = r.session + 1 }

-- the neighbour of a slot, read from a list that is that of the neighbours
pub same_hop : (read hops : List Hop) (k : ℕ) (d : Hop) → read ≡ hops → k < length hops → get_or read k d ≡ get_or hops k no_hop
same_hop read hops k d is within = ap (λ (hs : List Hop). get_or hs k d) is ∙ get_or_default hops k d no_hop within

-- what the code read of the router: its net and number, the neighbour's slot and row, its path and its counters
pub record HasRead (router : Router) (w : ℕ) (net : Net) (v k : ℕ) (r : Row) (q : PathNo) (n : Counters) : Type 0 where
  pub own : net ≡ router.net
  pub node : v ≡ router.node
  pub at : k ≡ slot net v w
  pub row : r ≡ row router.state k
  pub down : r.up ≡ false
  pub rib : q ≡ router.state.rib
  pub counters : n ≡ router.state.counters

at_slot : (router : Router) (w : ℕ) (net : Net) (v k : ℕ) (r : Row) (q : PathNo) (n : Counters) → HasRead router w net v k r q n
    → k ≡ slot router.net router.node w
at_slot router w net v k r q n h = h.at ∙ ap₂ (λ (x : Net) (y : ℕ). slot x y w) h.own h.node

own_row : (router : Router) (w : ℕ) (net : Net) (v k : ℕ) (r : Row) (q : PathNo) (n : Counters) → HasRead router w net v k r q n
    → r ≡ row router.state (slot router.net router.node w)
own_row router w net v k r q n h = h.row ∙ ap (row router.state) (at_slot router w net v k r q n h)

does_repair : (router : Router) (event : Event) (w : ℕ) → event.body ≡ Restore w → (row router.state (slot router.net router.node w)).up ≡ false
    → with_count (tell router.net router.node event.time (with_repaired_link router.state (slot router.net router.node w)) (slot router.net router.node w)) ≡ effect_at router event
does_repair router event w body down =
    let k = slot router.net router.node w in
    ap with_count (sym (ap (λ b. if b then without_sends router.state else tell router.net router.node event.time (with_repaired_link router.state k) k) down))
    ∙ body_does router event body

-- an update, told of what the code read
pub same_update : (router : Router) (t w : ℕ) (net : Net) (v k : ℕ) (x y : Row) (q : PathNo) (m n : ℕ) → net ≡ router.net → v ≡ router.node
    → k ≡ slot router.net router.node w → q ≡ router.state.rib → m ≡ n → x ≡ y
    → update_to v t q m (hop net v k) x ≡ update_to router.node t router.state.rib n (hop router.net router.node (slot router.net router.node w)) y
same_update router t w net v k x y q m n own node at rib number row =
    ap₂ (λ (a : Net) (b : ℕ). update_to b t q m (hop a b k) x) own node
    ∙ (ap₂ (λ (a : PathNo) (b : ℕ). update_to router.node t a b (hop router.net router.node k) x) rib number
    ∙ ap₂ (λ (a : ℕ) (b : Row). update_to router.node t router.state.rib n (hop router.net router.node a) b) at row)

-- one more message is sent and one more event handled, and the row is written
pub reacts_repaired : (router mid late : Router) (event : Event) (w : ℕ) (net : Net) (v k : ℕ) (r : Row) (q : PathNo) (n : Counters) (u : Event) (before after : List Event)
    (note : UndoRecord) → HasRead router w net v k r q n → event.body ≡ Restore w → has_peer router.net router.node w ≡ true → IsState router.net router.node router.state
    → n.sent < MOST_COUNTED → u ≡ update_to v event.time q n.sent (hop net v k) (repaired_row r) → after ≡ before ++ u ∷ []
    → mid ≡ record router { state = record router.state { counters = record n { sent = n.sent + 1; handled = n.handled + 1 } } }
    → late ≡ record mid { state = with_row mid.state k (repaired_row r) }
    → Reacts {A = UndoRecord} router late before after (effect_at router event) (Ok note)
reacts_repaired router mid late event w net v k r q n u before after note h body neighbour state few told adds mid_is late_is =
    let s = router.state in
    let here = slot router.net router.node w in
    let written : Counters → ℕ → Row → Router = λ c i x.
    record router { state = with_row (record s { counters = record c { sent = c.sent + 1; handled = c.handled + 1 } }) i (repaired_row x) } in
    let does = does_repair router event w body (ap (λ (x : Row). x.up) (sym (own_row router w net v k r q n h)) ∙ h.down) in
    subst (λ (o : Reaction). Reacts {A = UndoRecord} router late before after o (Ok note)) does (record {
      state = late_is ∙ (ap (λ (m : Router). record m { state = with_row m.state k (repaired_row r) }) mid_is
          ∙ (ap (λ (c : Counters). written c k r) h.counters
          ∙ ap₂ (λ (i : ℕ) (x : Row). written s.counters i x) (at_slot router w net v k r q n h) (own_row router w net v k r q n h)));
      sends = adds ∙ ap (λ (x : Event). before ++ x ∷ [])
          (told ∙ same_update router event.time w net v k (repaired_row r) (row (with_repaired_link s here) here) q n.sent s.counters.sent
          h.own h.node (at_slot router w net v k r q n h) h.rib (ap (λ (c : Counters). c.sent) h.counters)
          (ap repaired_row (own_row router w net v k r q n h) ∙ sym (row-with_row s here (repaired_row (row s here)) (has_slot router.net router.node s w state neighbour))));
      err = tt;
      unsent = tt;
      full = (
        λ e. absurd (false≢true (sym (ap is_ok e))),
        λ m. absurd (omega (arith, m, few, ap (λ (c : Counters). c.sent) h.counters)),
      );
    })
