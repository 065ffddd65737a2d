-- The events that wait for one router: those of a list in order before those in buckets.
use Rattle.std.proofs.Common.{◌≡◌, ◌<◌, ◌+◌, ◌++◌, Some, None, List, slice_get, refl, ap, sym, ◌∙◌, subst, inl, inr, arith}
use Rattle.std.specs.Result.{OnOk, OnErr}
use Rattle.std.specs.declared.result.Result.{Result}
use Rattle.std.specs.declared.result.Result.TheVariants.{Ok, Err}
use Rattle.std.specs.declared.alloc.AllocError.{AllocError}
use Rattle.tw_event.specs.declared.event.Event.{Event}
use Rattle.tw_event.specs.Order.{event_before, event_same}
use Rattle.tw_sim.specs.Ordered.{insert, one, take_out, times}
use Rattle.tw_sim.specs.Rising.{IsRising}
use Rattle.tw_sim.proofs.Ordered.{one_cases}
use Rattle.tw_ordered.specs.InOrder.{in_order}
use Rattle.tw_queue.specs.Times.{AreNearFirst}
use Rattle.tw_ordered.proofs.Ordered.{cases_zero, in_order_removed, rising-in_order, take_out_none, times-take_out}
use Rattle.tw_ordered.proofs.Events.{event_law, first_is_least, first_of_least, no_first, not_before_first, in_order_rising, nothing}
use Rattle.tw_ordered.proofs.Lists.{times-append}
use Rattle.tw_calendar.proofs.Stacked.{counted, order_more}
use Rattle.tw_queue.proofs.Times.{inserted_counts}

module _ (near far now : List Event) (are : in_order event_before (near ++ far) ≡ now) where
  pub queue_rising : IsRising event_before event_same now
  queue_rising = subst (IsRising event_before event_same) are (rising-in_order event_before event_same event_law (near ++ far))

  pub queue_counts : (e : Event) → times event_same e now ≡ times event_same e near + times event_same e far
  queue_counts e = counted e near far now are

  -- an event goes in
  pub put_near : (r : Result Unit AllocError) (e : Event) (new : List Event) → OnOk r (new ≡ insert event_before e near) → OnOk r (in_order event_before (new ++ far) ≡ insert event_before e now)
  put_near (Ok u) e new h =
      order_more e near far new far (λ d. let n = inserted_counts d e near new h in omega arith) ∙ ap (insert event_before e) are
  put_near (Err x) e new h = tt

  pub put_far : (e : Event) (new : List Event) → new ≡ insert event_before e far → in_order event_before (near ++ new) ≡ insert event_before e now
  put_far e new h =
      order_more e near far near new (λ d. let n = inserted_counts d e far new h in omega arith) ∙ ap (insert event_before e) are

  -- an event comes out
  pub come_out : (e : Event) (vs ws : List Event) → ((d : Event) → one event_same d e + (times event_same d vs + times event_same d ws) ≡ times event_same d near + times event_same d far)
      → in_order event_before (vs ++ ws) ≡ take_out event_same e now
  come_out e vs ws h =
      in_order_removed event_before event_same event_law e (near ++ far) (vs ++ ws) (λ d.
      let n = h d in
      let a = times-append d near far in
      let b = times-append d vs ws in
      omega arith) ∙ ap (take_out event_same e) are

  -- one that is not near
  pub out_far : (e : Event) (new : List Event) → times event_same e near ≡ 0 → new ≡ take_out event_same e far → in_order event_before (near ++ new) ≡ take_out event_same e now
  out_far e new none is =
      elim (cases_zero (times event_same e far)) [
        | inl z ↦ grind (arith, queue_counts, take_out_none, event_law)
        | inr there ↦
            come_out e near new (λ d.
            let n = ap (times event_same d) is in
            let m = times-take_out event_before event_same event_law d e far there in
            omega arith)
      ]

  -- the first of all
  module _ (rising : IsRising event_before event_same near) (apart : AreNearFirst near far) where
    pub first_near : (x : Event) → Some x ≡ slice_get near 0 → Some x ≡ slice_get now 0
    first_near x h =
        let l = first_is_least x near near rising (λ y. refl) (sym h) in
        sym (first_of_least x (near ++ far) (record {
          there = grind (arith, times-append);
          first = λ z there.
              let a = times-append z near far in
              elim (cases_zero (times event_same z near)) [
                | inl none ↦ (let later = apart x z l.there (omega arith) in not_before_first x z (omega arith) (λ q. absurd (omega arith)))
                | inr some ↦ l.first z some
              ];
        })) ∙ ap (λ xs. slice_get xs 0) are

  pub first_not_near : None ≡ slice_get near 0 → IsRising event_before event_same far → slice_get far 0 ≡ slice_get now 0
  first_not_near h rising =
      let empty = nothing near (no_first near (sym h)) in
      ap (λ xs. slice_get xs 0) (sym (in_order_rising far rising) ∙ ap (λ xs. in_order event_before (xs ++ far)) (sym empty) ∙ are)

-- what is near stays before what is far
module _ (near far : List Event) (apart : AreNearFirst near far) (e : Event) where
  pub apart_near : (r : Result Unit AllocError) (new : List Event) → OnOk r (new ≡ insert event_before e near) → OnErr r (new ≡ near)
      → ((d : Event) → 0 < times event_same d far → e.time < d.time) → AreNearFirst new far
  apart_near (Ok u) new h k soon d x there other =
      let n = inserted_counts d e near new h in
      elim (one_cases event_before event_same event_law d e) [
        | inl z ↦ apart d x (omega arith) other
        | inr q ↦ (let l = soon x other in let t = ap (λ y. y.time) q in omega arith)
      ]
  apart_near (Err f) new h k soon d x there other = apart d x (subst (λ ys. 0 < times event_same d ys) k there) other

  pub apart_far : (new : List Event) → new ≡ insert event_before e far → ((d : Event) → 0 < times event_same d near → d.time < e.time) → AreNearFirst near new
  apart_far new h late d x there other =
      let n = inserted_counts x e far new h in
      elim (one_cases event_before event_same event_law x e) [
        | inl z ↦ apart d x there (omega arith)
        | inr q ↦ (let l = late d there in let t = ap (λ y. y.time) q in omega arith)
      ]

-- the events, put at the end of a list
pub queue_appended : (r : Result Unit AllocError) (near far now one old new : List Event) → in_order event_before (near ++ far) ≡ now
    → ((e : Event) → times event_same e one ≡ times event_same e near + times event_same e old)
    → OnOk r ((e : Event) → times event_same e new ≡ times event_same e far + times event_same e one) → OnOk r ((e : Event) → times event_same e new ≡ times event_same e now + times event_same e old)
queue_appended (Ok u) near far now one old new are h k = λ e. grind (arith, queue_counts)
queue_appended (Err x) near far now one old new are h k = tt

pub none_near : (e : Event) (xs : List Event) → (0 < times event_same e xs → ⊥) → times event_same e xs ≡ 0
none_near e xs h =
    elim (cases_zero (times event_same e xs)) [ inl z ↦ z | inr l ↦ absurd (h l) ]
