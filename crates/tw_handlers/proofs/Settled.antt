-- A router that takes another path after an event that changed its row or its bar.
use Rattle.std.proofs.Common.{◌≡◌, ◌+◌, ◌==◌, ◌&&◌, ◌++◌, ℕ, Bool, true, false, not, List, length, ap, ap₂, subst, sym, ◌∙◌, arith, if◌then◌else◌}
use Rattle.std.proofs.lemmas.Bool.{eq-eqb, false≢true, ltb-false, ne_eqb, not-false}
use Rattle.std.specs.Prelude.{Ok, is_ok, nat_lt}
use Rattle.tw_event.specs.declared.event.Body.TheVariants.{Allow, Fail, Forbid, Update}
use Rattle.tw_event.specs.declared.event.Event.{Event}
use Rattle.tw_event.specs.declared.event.PathNo.{PathNo}
use Rattle.tw_model.specs.declared.limits.TheConstants.{MOST_COUNTED}
use Rattle.tw_model.specs.declared.state.Counters.{Counters}
use Rattle.tw_model.specs.declared.state.Row.{Row}
use Rattle.tw_model.specs.Net.{Net, empty_path}
use Rattle.tw_model.specs.State.{Router, State, best, is_barred, row, slot}
use Rattle.tw_model.specs.Effect.{Reaction, acts, settle, updates, ups, with_bar, with_dropped, with_failed_link, with_heard, with_rib, with_row, without_sends}
use Rattle.tw_handlers.specs.Calls.{Reacts, effect_at, with_count}
use Rattle.tw_handlers.proofs.Reacting.{told_ok}

-- where the best path is another one, it is taken and told
pub settle_changed : (net : Net) (v t : ℕ) (s : State) → (s.rib.0 ≡ (best net v s).0 → ⊥)
    → record { state = with_rib net v s (best net v s); sends = updates net v t (best net v s) s.counters.sent s } ≡ settle net v t s
settle_changed net v t s other =
    sym (ap (λ (b : Bool). if b then without_sends s else record {
      state = with_rib net v s (best net v s);
      sends = updates net v t (best net v s) s.counters.sent s;
    }) (ne_eqb s.rib.0 (best net v s).0 other))

-- the counters, the path and what is sent are those of a change
pub reacts_changed : (router mid late : Router) (t : ℕ) (q p : PathNo) (n : Counters) (sent : ℕ) (before after : List Event) → q ≡ best router.net router.node router.state
    → p ≡ router.state.rib → (p.0 ≡ q.0 → ⊥) → n ≡ router.state.counters → false ≡ nat_lt MOST_COUNTED (router.state.counters.sent + length (ups router.net router.node router.state))
    → sent ≡ n.sent + length (ups router.net router.node router.state) → after ≡ before ++ updates router.net router.node t q n.sent router.state
    → mid ≡ record router { state = record router.state { rib = q } }
    → late ≡ record mid { state = record mid.state { counters = record { sent = sent; handled = n.handled + 1; dropped = n.dropped; changed = n.changed + 1 } } }
    → Reacts {A = Bool} router late before after (with_count (settle router.net router.node t router.state)) (Ok true)
reacts_changed router mid late t q p n sent before after q_is p_is other n_is few sent_is adds mid_is late_is =
    let s = router.state in
    let written : PathNo → Counters → ℕ → Router = λ x c m.
    record router { state = record s { rib = x; counters = record { sent = m; handled = c.handled + 1; dropped = c.dropped; changed = c.changed + 1 } } } in
    let told : sent ≡ s.counters.sent + length (ups router.net router.node s) = sent_is ∙ ap (λ (c : Counters). c.sent + length (ups router.net router.node s)) n_is in
    let differs = λ (e : s.rib.0 ≡ (best router.net router.node s).0). other (ap (λ (x : PathNo). x.0) p_is ∙ (e ∙ ap (λ (x : PathNo). x.0) (sym q_is))) in
    let does = settle_changed router.net router.node t s differs in
    subst (λ (o : Reaction). Reacts {A = Bool} router late before after (with_count o) (Ok true)) does (record {
      state = late_is ∙ (ap (λ (m : Router). record m { state = record m.state { counters = record { sent = sent; handled = n.handled + 1; dropped = n.dropped; changed = n.changed + 1 } } }) mid_is
          ∙ (ap (λ (m : ℕ). written q n m) told ∙ ap₂ (λ (x : PathNo) (c : Counters). written x c (s.counters.sent + length (ups router.net router.node s))) q_is n_is));
      sends = adds ∙ ap₂ (λ (x : PathNo) (c : Counters). before ++ updates router.net router.node t x c.sent s) q_is n_is;
      err = tt;
      unsent = tt;
      full = (
        λ e. absurd (false≢true (sym (ap is_ok e))),
        λ m. absurd (omega (arith, m, ltb-false MOST_COUNTED (s.counters.sent + length (ups router.net router.node s)) (sym few))),
      );
    })

-- an update of the session of a link that is up is heard
acts_heard : (router : Router) (event : Event) (q : PathNo) (n k : ℕ) (r : Row) → k ≡ slot router.net router.node event.src → r ≡ row router.state k
    → not r.up ≡ false → r.session ≡ n
    → with_count (settle router.net router.node event.time (with_heard router.state k q)) ≡ with_count (acts router.net router.node router.state event (Update q n))
acts_heard router event q n k r at is up same =
    let s = router.state in
    let here = slot router.net router.node event.src in
    let own : r ≡ row s here = is ∙ ap (row s) at in
    let is_up : (row s here).up ≡ true = ap (λ (x : Row). x.up) (sym own) ∙ not-false r.up up in
    let now : ((row s here).session == n) ≡ true = eq-eqb (row s here).session n (ap (λ (x : Row). x.session) (sym own) ∙ same) in
    ap (λ (i : ℕ). with_count (settle router.net router.node event.time (with_heard s i q))) at
    ∙ sym (ap₂ (λ (a b : Bool). with_count (if a && b then settle router.net router.node event.time (with_heard s here q) else without_sends (with_dropped s))) is_up now)

pub reacts_heard : {A B : Type 0} {late : Router} {before after : List Event} {x : A} {y : B} (router : Router) (event : Event) (q : PathNo) (n k : ℕ) (r : Row)
    → event.body ≡ Update q n → k ≡ slot router.net router.node event.src → r ≡ row router.state k → not r.up ≡ false → r.session ≡ n
    → Reacts {A = A} router late before after (with_count (settle router.net router.node event.time (with_heard router.state k q))) (Ok x)
    → Reacts {A = B} router late before after (effect_at router event) (Ok y)
reacts_heard {A = A} {late = late} {before = before} {after = after} {x = x} router event q n k r body at is up same h =
    told_ok router event body (subst (λ (o : Reaction). Reacts {A = A} router late before after o (Ok x)) (acts_heard router event q n k r at is up same) h)

-- a link that was up fails
acts_failed : (router : Router) (event : Event) (w k : ℕ) (r : Row) → k ≡ slot router.net router.node w → r ≡ row router.state k → r.up ≡ true
    → with_count (settle router.net router.node event.time (with_row router.state k (record r { heard = empty_path; up = false })))
    ≡ with_count (acts router.net router.node router.state event (Fail w))
acts_failed router event w k r at is up =
    let s = router.state in
    let here = slot router.net router.node w in
    let own : r ≡ row s here = is ∙ ap (row s) at in
    ap₂ (λ (i : ℕ) (x : Row). with_count (settle router.net router.node event.time (with_row s i (record x { heard = empty_path; up = false })))) at own
    ∙ sym (ap (λ (b : Bool). with_count (if b then settle router.net router.node event.time (with_failed_link s here) else without_sends s)) (ap (λ (x : Row). x.up) (sym own) ∙ up))

pub reacts_failed : {A B : Type 0} {late : Router} {before after : List Event} {x : A} {y : B} (router : Router) (event : Event) (w k : ℕ) (r : Row)
    → event.body ≡ Fail w → k ≡ slot router.net router.node w → r ≡ row router.state k → r.up ≡ true
    → Reacts {A = A} router late before after (with_count (settle router.net router.node event.time (with_row router.state k (record r { heard = empty_path; up = false })))) (Ok x)
    → Reacts {A = B} router late before after (effect_at router event) (Ok y)
reacts_failed {A = A} {late = late} {before = before} {after = after} {x = x} router event w k r body at is up h =
    told_ok router event body (subst (λ (o : Reaction). Reacts {A = A} router late before after o (Ok x)) (acts_failed router event w k r at is up) h)

-- a path that was not barred is forbidden
pub reacts_forbidden : {A B : Type 0} {late : Router} {before after : List Event} {x : A} {y : B} (router : Router) (event : Event) (k : ℕ)
    → event.body ≡ Forbid k → is_barred router.state k ≡ false
    → Reacts {A = A} router late before after (with_count (settle router.net router.node event.time (with_bar router.state k true))) (Ok x)
    → Reacts {A = B} router late before after (effect_at router event) (Ok y)
reacts_forbidden {A = A} {late = late} {before = before} {after = after} {x = x} router event k body free h =
    told_ok router event body (subst (λ (o : Reaction). Reacts {A = A} router late before after o (Ok x))
    (sym (ap (λ (b : Bool). with_count (if b then without_sends router.state else settle router.net router.node event.time (with_bar router.state k true))) free)) h)

-- a path that was barred is allowed
pub reacts_allowed : {A B : Type 0} {late : Router} {before after : List Event} {x : A} {y : B} (router : Router) (event : Event) (k : ℕ)
    → event.body ≡ Allow k → is_barred router.state k ≡ true
    → Reacts {A = A} router late before after (with_count (settle router.net router.node event.time (with_bar router.state k false))) (Ok x)
    → Reacts {A = B} router late before after (effect_at router event) (Ok y)
reacts_allowed {A = A} {late = late} {before = before} {after = after} {x = x} router event k body barred h =
    told_ok router event body (subst (λ (o : Reaction). Reacts {A = A} router late before after o (Ok x))
    (sym (ap (λ (b : Bool). with_count (if b then settle router.net router.node event.time (with_bar router.state k false) else without_sends router.state)) barred)) h)
