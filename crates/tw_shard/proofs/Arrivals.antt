-- What comes to a shard, and what is undone for it.
use Rattle.std.proofs.Common.{◌≡◌, ◌+◌, ◌<◌, ◌↔◌, Bool, true, List, [], ◌∷◌, ◌++◌, reverse, nat_lt, inl, inr, refl, ap, sym, ◌∙◌, arith}
use Rattle.std.specs.List.{AllByRecursion, list_any}
use Rattle.std.proofs.lemmas.Bool.{cases_Bool, lt-ltb, ltb-true}
use Rattle.std.proofs.lemmas.List.{map-append, reverse-append}
use Rattle.tw_event.proofs.Order.{event_eq}
use Rattle.tw_event.specs.Order.{event_same}
use Rattle.tw_event.specs.contracts.event.EventPartialEq.TheImpl as event_eqs
use Rattle.tw_sim.specs.Ordered.{take_out, times}
use Rattle.tw_shard.specs.declared.timeline.HandledEvent.{HandledEvent}
use Rattle.tw_shard.specs.Timeline.{events_of}
use Rattle.tw_event.specs.declared.event.Event.{Event}
use Rattle.tw_model.specs.Effect.{suits}
use Rattle.tw_ordered.specs.Queue.{Queue}
use Rattle.tw_shard.specs.declared.shard.Shard.TheInside.{Inside}
use Rattle.tw_shard.specs.Inside.{IsShard}
use Rattle.tw_shard.specs.declared.tally.Tally.{Tally}

-- a shard with another list of what is pending
pub pending_shard : (a : Inside) (q : Queue) → IsShard a → q.routers ≡ a.pending.routers
    → AllByRecursion (λ (e : Event). suits a.case.now.net e.dst e ≡ true) q.events → IsShard (record a { pending = q })
pending_shard a q is routers suit = record {
  whole = record {
    case = is.whole.case;
    worker = is.whole.worker;
    apart = is.whole.apart;
    long = is.whole.long;
    routers = λ r own. let at = is.whole.routers r own in record { known = at.known; within = at.within; net = at.net; node = at.node; done = at.done; case = at.case; retains = at.retains };
    pending = suit;
    held = is.whole.held;
  };
  roster = is.roster;
  pending = routers ∙ is.pending;
  kept = is.kept;
  held = is.held;
  latest = is.latest;
}

-- a shard that has counted something
pub counted : (a : Inside) (tally : Tally) → IsShard a → IsShard (record a { tally = tally })
counted a tally is = record { whole = is.whole; roster = is.roster; pending = is.pending; kept = is.kept; held = is.held; latest = is.latest }

-- ---- what a timeline has handled

pub times_two : (e : Event) (xs ys : List Event) → times event_same e (xs ++ ys) ≡ times event_same e xs + times event_same e ys
times_two e [] ys = omega arith
times_two e (x ∷ xs) ys = let h = times_two e xs ys in omega arith

-- how often an event was handled does not depend on the order of the steps
times_steps : (e : Event) (steps : List HandledEvent) → times event_same e (events_of (reverse steps)) ≡ times event_same e (events_of steps)
times_steps e [] = refl
times_steps e (d ∷ steps) =
    let first = times_two e (events_of (reverse steps)) (d.event ∷ []) in
    let split : events_of (reverse (d ∷ steps)) ≡ events_of (reverse steps) ++ d.event ∷ [] = ap events_of (reverse-append (d ∷ []) steps) ∙ map-append (λ d. d.event) (reverse steps) (d ∷ []) in
    let same = ap (times event_same e) split in
    let h = times_steps e steps in
    omega arith

any_step : (e : Event) (steps : List HandledEvent) → list_any (λ d. event_eqs.ghosts.eq e d.event) steps ≡ nat_lt 0 (times event_same e (events_of steps))
any_step e [] = refl
any_step e (d ∷ steps) =
    elim (cases_Bool (event_same e d.event)) [
      | inl same ↦ rw (event_eq e d.event ∙ same, same) (sym (lt-ltb 0 (1 + times event_same e (events_of steps)) (omega arith)))
      | inr other ↦ rw (event_eq e d.event ∙ other, other) (
          let n = times event_same e (events_of steps) in
          let none : n ≡ 0 + n = omega arith in any_step e steps ∙ ap (nat_lt 0) none)
    ]

-- whether a step handled an event
pub has_step : (e : Event) (steps : List HandledEvent) (found : Bool) → found ≡ list_any (λ d. event_eqs.ghosts.eq e d.event) steps
    → (found ≡ true) ↔ (0 < times event_same e (events_of (reverse steps)))
has_step e steps found is =
    let same = is ∙ any_step e steps in
    let n = times event_same e (events_of steps) in
    let count = times_steps e steps in
    ((λ h. let some = ltb-true 0 n (sym same ∙ h) in omega arith), (λ h. same ∙ lt-ltb 0 n (omega arith)))

-- ---- what waits

-- what is not there cannot be taken out
pub not_there : (e : Event) (xs : List Event) → (0 < times event_same e xs → ⊥) → take_out event_same e xs ≡ xs
not_there e [] none = refl
not_there e (x ∷ xs) none =
    elim (cases_Bool (event_same e x)) [
      | inl same ↦ absurd (none (rw same (omega arith)))
      | inr other ↦ rw other (ap (λ ys. x ∷ ys) (not_there e xs (λ some. none (rw other (omega arith)))))
    ]
