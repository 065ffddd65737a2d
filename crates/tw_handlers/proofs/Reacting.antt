-- A router whose row, order or bar was written before it settled.
use Rattle.std.proofs.Common.{◌≡◌, ℕ, List, ap, subst, sym, ◌∙◌}
use Rattle.std.proofs.lemmas.Bool.{false≢true}
use Rattle.std.specs.Prelude.{Result, Ok, Err, is_ok}
use Rattle.tw_event.specs.declared.event.Body.{Body}
use Rattle.tw_event.specs.declared.event.Event.{Event}
use Rattle.tw_model.specs.declared.memory.OrMemory.{OrMemory}
use Rattle.tw_model.specs.declared.state.Row.{Row}
use Rattle.tw_model.specs.State.{Router, State, row}
use Rattle.tw_model.specs.Effect.{Reaction, acts, settle, with_row}
use Rattle.tw_handlers.specs.declared.fault.CounterFull.{CounterFull}
use Rattle.tw_handlers.specs.Calls.{Reacts, effect_at, with_count}
use Rattle.tw_handlers.proofs.Rows.{back-row}

-- what settling says, said of the router before it was written to
settled_from : {A : Type 0} (early mid late : Router) (t : ℕ) (s : State) (before after : List Event) (result : Result A (OrMemory CounterFull))
    → mid ≡ record early { state = s } → Reacts mid late before after (with_count (settle mid.net mid.node t mid.state)) result
    → Reacts (record early { state = s }) late before after (with_count (settle early.net early.node t s)) result
settled_from early mid late t s before after result is h =
    subst (λ (m : Router). Reacts m late before after (with_count (settle m.net m.node t m.state)) result) is h

-- it settled
pub reacts_on : {A : Type 0} (early mid late : Router) (t : ℕ) (s : State) (before after : List Event) (x : A)
    → mid ≡ record early { state = s } → Reacts {A = A} mid late before after (with_count (settle mid.net mid.node t mid.state)) (Ok x)
    → Reacts {A = A} early late before after (with_count (settle early.net early.node t s)) (Ok x)
reacts_on early mid late t s before after x is h =
    let k = settled_from early mid late t s before after (Ok x) is h in
    record { state = k.state; sends = k.sends; err = tt; unsent = tt; full = k.full }

-- it was refused, and what was written is written back
pub reacts_back : {A : Type 0} (early mid refused late : Router) (t : ℕ) (s : State) (before after : List Event) (e : OrMemory CounterFull)
    → mid ≡ record early { state = s } → Reacts {A = A} mid refused before after (with_count (settle mid.net mid.node t mid.state)) (Err e)
    → late ≡ early → Reacts {A = A} early late before after (with_count (settle early.net early.node t s)) (Err e)
reacts_back early mid refused late t s before after e is h back =
    let k = settled_from early mid refused t s before after (Err e) is h in
    record { state = tt; sends = tt; err = back; unsent = k.unsent; full = k.full }

-- a row written and written back
pub row_back : (early mid refused late : Router) (k : ℕ) (x y : Row) → mid ≡ record early { state = with_row early.state k x } → refused ≡ mid
    → late ≡ record refused { state = with_row refused.state k y } → y ≡ row early.state k → late ≡ early
row_back early mid refused late k x y is same last e =
    last ∙ (ap (λ (r : Router). record r { state = with_row r.state k y }) (same ∙ is)
    ∙ ap (λ (s : State). record early { state = s }) (back-row early.state k x y e))

-- the error of a result, or e where it has none
abbrev error_or : {A E : Type 0} → Result A E → E → E
error_or (Ok x) e = e
error_or (Err f) e = f

-- what an event does is what its body does
pub body_does : (router : Router) (event : Event) {body : Body} → event.body ≡ body
    → with_count (acts router.net router.node router.state event body) ≡ effect_at router event
body_does router event is = ap (λ (b : Body). with_count (acts router.net router.node router.state event b)) (sym is)

-- what its body did, said of the event that a router handled
pub told_ok : {A B : Type 0} {late : Router} {before after : List Event} {x : A} {y : B} {body : Body} (router : Router) (event : Event) → event.body ≡ body
    → Reacts {A = A} router late before after (with_count (acts router.net router.node router.state event body)) (Ok x)
    → Reacts {A = B} router late before after (effect_at router event) (Ok y)
told_ok {A = A} {late = late} {before = before} {after = after} {x = x} router event is h =
    let k = subst (λ (o : Reaction). Reacts {A = A} router late before after o (Ok x)) (body_does router event is) h in
    record {
      state = k.state;
      sends = k.sends;
      err = tt;
      unsent = tt;
      full = (λ e. absurd (false≢true (sym (ap is_ok e))), λ m. absurd (false≢true (sym (ap is_ok (k.full.1 m)))));
    }

pub told_err : {A B : Type 0} {late : Router} {before after : List Event} {e : OrMemory CounterFull} {body : Body} (router : Router) (event : Event) → event.body ≡ body
    → Reacts {A = A} router late before after (with_count (acts router.net router.node router.state event body)) (Err e)
    → Reacts {A = B} router late before after (effect_at router event) (Err e)
told_err {A = A} {B = B} {late = late} {before = before} {after = after} {e = e} router event is h =
    let k = subst (λ (o : Reaction). Reacts {A = A} router late before after o (Err e)) (body_does router event is) h in
    let refused_a : OrMemory CounterFull → Result A (OrMemory CounterFull) = λ f. Err f in
    let refused_b : OrMemory CounterFull → Result B (OrMemory CounterFull) = λ f. Err f in
    record {
      state = tt;
      sends = tt;
      err = k.err;
      unsent = k.unsent;
      full = (
        λ q. k.full.0 (ap refused_a (ap (λ (r : Result B (OrMemory CounterFull)). error_or r e) q)),
        λ m. ap refused_b (ap (λ (r : Result A (OrMemory CounterFull)). error_or r e) (k.full.1 m)),
      );
    }
