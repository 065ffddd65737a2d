-- An event sought in a ring, and taken out of it: at hand, or in its bucket.
use Rattle.std.proofs.Common.{◌≡◌, ◌≤◌, ◌<◌, ◌%◌, ◌++◌, ◌↔◌, IsTrue, ℕ, Bool, Option, Some, None, List, ◌∷◌, length, filter, get_or, set, slice_get, refl, ap, sym, ◌∙◌, subst, arith}
use Rattle.std.proofs.lemmas.List.Elements.{filter-append}
use Rattle.tw_event.specs.declared.event.Event.{Event}
use Rattle.tw_event.specs.Order.{event_before, event_same}
use Rattle.tw_sim.specs.Ordered.{take_out, times}
use Rattle.tw_sim.specs.Rising.{IsRising}
use Rattle.tw_sim.proofs.Counts.{none}
use Rattle.tw_ordered.specs.Buckets.{together}
use Rattle.tw_ordered.specs.InOrder.{in_order, least_with}
use Rattle.tw_calendar.specs.Ring.{IsRing, hand_of, ring_events}
use Rattle.tw_calendar.specs.declared.ring.Ring.TheInside.{Inside}
use Rattle.tw_ordered.proofs.Events.{event_law, filter-in_order, least_first, in_order_rising}
use Rattle.tw_ordered.proofs.Lists.{times-append, times-take_out-le}
use Rattle.tw_ordered.proofs.Ordered.{in_order-taken, in_order-times, times-in_order}
use Rattle.tw_ordered.proofs.Rows.{rising-take_out}
use Rattle.tw_calendar.proofs.Sought.{least_behind}
use Rattle.tw_calendar.proofs.Turns.{cut_counts, placed_count}

module _ (a : Inside) (v : IsRing a) (e : Event) where
  all_counts : (d : Event) → times event_same d (ring_events a) ≡ times event_same d (hand_of a ++ together a.buckets.items)
  all_counts d = times-in_order event_before event_same event_law d (hand_of a ++ together a.buckets.items)

  -- at the time of the tick at hand, or before it, the event can only be at hand
  module _ (soon : e.time ≤ a.tick) where
    hand_alone : times event_same e (hand_of a ++ together a.buckets.items) ≡ times event_same e (hand_of a)
    hand_alone =
        let n = times-append e (hand_of a) (together a.buckets.items) in
        let z = none (times event_same e (together a.buckets.items)) (λ there. let l = v.turn.after e there in omega arith) in
        omega arith

    pub hand_count : times event_same e (hand_of a) ≡ times event_same e (ring_events a)
    hand_count = sym (all_counts e ∙ hand_alone)

    module _ (left : List Event) (less : left ≡ take_out event_same e (hand_of a)) where
      pub hand_order : in_order event_before (left ++ together a.buckets.items) ≡ take_out event_same e (ring_events a)
      hand_order =
          in_order-taken event_before event_same event_law (hand_of a ++ together a.buckets.items) (left ++ together a.buckets.items) (hand_of a) left (λ d.
          let n = times-append d (hand_of a) (together a.buckets.items) in
          let m = times-append d left (together a.buckets.items) in
          omega arith) e hand_alone less

      pub hand_less : (b : Inside) → b.tick ≡ a.tick → b.marks ≡ a.marks → b.buckets.items ≡ a.buckets.items → b.taken ≤ length b.hand → hand_of b ≡ left → IsRing b
      hand_less b tick marks buckets taken is = record {
        taken = taken;
        rising = rw (is, less) (rising-take_out e (hand_of a) v.rising);
        begun =
            λ d there.
            let n = ap (times event_same d) (is ∙ less) in
            let l = times-take_out-le d e (hand_of a) in
            let s = v.begun d (omega arith) in
            omega arith;
        turn = rw (tick, marks, buckets) v.turn;
      }

  -- later it can only be in its bucket
  module _ (late : a.tick < e.time) (p : ℕ) (p_is : p ≡ e.time % 1024) (bucket : List Event) (is : bucket ≡ get_or a.buckets.items p bucket) where
    bucket_alone : times event_same e (hand_of a ++ together a.buckets.items) ≡ times event_same e bucket
    bucket_alone =
        let n = times-append e (hand_of a) (together a.buckets.items) in
        let z = none (times event_same e (hand_of a)) (λ there. let l = v.begun e there in omega arith) in
        let c = placed_count (λ d. d.time) a.tick a.marks a.buckets.items v.turn e p p_is bucket is (take_out event_same e bucket) refl in
        omega arith

    pub bucket_count : times event_same e bucket ≡ times event_same e (ring_events a)
    bucket_count = sym (all_counts e ∙ bucket_alone)

    module _ (less : List Event) (less_is : less ≡ take_out event_same e bucket) where
      pub bucket_order : in_order event_before (hand_of a ++ together (set a.buckets.items p less)) ≡ take_out event_same e (ring_events a)
      bucket_order =
          in_order-taken event_before event_same event_law (hand_of a ++ together a.buckets.items) (hand_of a ++ together (set a.buckets.items p less)) bucket less (λ d.
          let n = times-append d (hand_of a) (together a.buckets.items) in
          let m = times-append d (hand_of a) (together (set a.buckets.items p less)) in
          let c = cut_counts (λ x. x.time) a.tick a.marks a.buckets.items v.turn e p p_is bucket is less less_is d in
          omega arith) e bucket_alone less_is

-- whether it is there, by an equal count
pub found_by : (found : Bool) (n m : ℕ) → n ≡ m → IsTrue found ↔ (0 < n) → IsTrue found ↔ (0 < m)
found_by found n m h k = subst (λ i. IsTrue found ↔ (0 < i)) h k

-- the least of those at hand and in buckets that pass a test
pub least_passed : (p : Event → Bool) (hand later : List Event)
    → least_with (least_with None (filter p hand)) (filter p later) ≡ slice_get (filter p (in_order event_before (hand ++ later))) 0
least_passed p hand later =
    sym (least_behind None (filter p hand) (filter p later)) ∙ ap (least_with None) (sym (filter-append p hand later)) ∙ least_first (filter p (hand ++ later))
    ∙ ap (λ xs. slice_get xs 0) (sym (filter-in_order p (hand ++ later)))

-- the least of an event and of a list does not depend on the list's order
least_none : (xs ys : List Event) → ((e : Event) → times event_same e xs ≡ times event_same e ys) → least_with None xs ≡ least_with None ys
least_none xs ys h =
    least_first xs ∙ ap (λ zs. slice_get zs 0) (in_order-times event_before event_same event_law xs ys h) ∙ sym (least_first ys)

least_any : (o : Option Event) (xs ys : List Event) → ((e : Event) → times event_same e xs ≡ times event_same e ys) → least_with o xs ≡ least_with o ys
least_any None xs ys h = least_none xs ys h
least_any (Some m) xs ys h = least_none (m ∷ xs) (m ∷ ys) (λ e. let c = h e in omega arith)

-- nor does that of those that pass a test
pub least_for_order : (p : Event → Bool) (o : Option Event) (xs : List Event) → least_with o (filter p xs) ≡ least_with o (filter p (in_order event_before xs))
least_for_order p o xs =
    sym (least_any o (in_order event_before (filter p xs)) (filter p xs) (λ e. times-in_order event_before event_same event_law e (filter p xs)))
    ∙ ap (least_with o) (sym (filter-in_order p xs))

-- and of two lists, one after the other
pub least_for_both : (p : Event → Bool) (o : Option Event) (xs ys : List Event)
    → least_with (least_with o (filter p xs)) (filter p ys) ≡ least_with o (filter p (in_order event_before (xs ++ ys)))
least_for_both p o xs ys =
    sym (least_behind o (filter p xs) (filter p ys)) ∙ ap (least_with o) (sym (filter-append p xs ys)) ∙ least_for_order p o (xs ++ ys)

-- the first of a list in order is its least, of those that pass a test too
pub first_passed : (p : Event → Bool) (xs : List Event) → IsRising event_before event_same xs → slice_get (filter p xs) 0 ≡ least_with None (filter p xs)
first_passed p xs rising =
    ap (λ zs. slice_get (filter p zs) 0) (sym (in_order_rising xs rising)) ∙ ap (λ zs. slice_get zs 0) (filter-in_order p xs) ∙ sym (least_first (filter p xs))
