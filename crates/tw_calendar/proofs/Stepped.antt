-- A ring that goes back to an earlier time: what is left at hand goes into its bucket.
use Rattle.std.proofs.Common.{◌≡◌, ◌≢◌, ◌≤◌, ◌<◌, ◌+◌, ◌%◌, ◌++◌, ◌*◌, ◌-◌, ℕ, suc, IfSome, List, [], ◌∷◌, length, drop, get_or, set, slice_get, ap, sym, ◌∙◌, subst, inl, inr, arith}
use Rattle.std.proofs.lemmas.List.{drop_all, get_or_read}
use Rattle.tw_event.specs.declared.event.Event.{Event}
use Rattle.tw_event.specs.Order.{event_before, event_same}
use Rattle.tw_sim.specs.Ordered.{times}
use Rattle.tw_sim.proofs.Ordered.{in_cons}
use Rattle.tw_ordered.specs.Buckets.{together}
use Rattle.tw_ordered.specs.InOrder.{in_order}
use Rattle.tw_calendar.specs.Ring.{IsRing, hand_of, ring_events}
use Rattle.tw_calendar.specs.Turn.{IsFirstMark, IsTurn, mark_at}
use Rattle.tw_calendar.specs.declared.ring.Ring.TheInside.{Inside}
use Rattle.tw_ordered.proofs.Events.{event_law}
use Rattle.tw_ordered.proofs.Lists.{times-append, times-set}
use Rattle.tw_ordered.proofs.Ordered.{in_order-times}
use Rattle.tw_calendar.proofs.Rings.{times_left}
use Rattle.tw_ordered.specs.Times.{first_time}
use Rattle.std.proofs.lemmas.Bool.{cases_lt}
use Rattle.tw_sim.proofs.Ordered.{one_self}
use Rattle.tw_calendar.proofs.Turns.{in_slot, out_slot, some_of, turn_set}

-- each event has the time that each place tells
pub of_time : (time : ℕ) (xs : List Event) → ((place : ℕ) → IfSome (slice_get xs place) (λ e. e.time ≡ time)) → (e : Event) → 0 < times event_same e xs → e.time ≡ time
of_time time [] h e there = absurd (omega arith)
of_time time (x ∷ xs) h e there =
    elim (in_cons event_before event_same event_law e x xs there) [
      | inl q ↦ ap (λ d. d.time) q ∙ h 0
      | inr l ↦ of_time time xs (λ place. h (suc place)) e l
    ]

-- whether all events have buckets after an earlier base
module _ (tick base : ℕ) (marks : List ℕ) (lists : List (List Event)) (t : IsTurn (λ e. e.time) tick marks lists) (back : base < tick) (p : ℕ) (f : IsFirstMark marks base p) where
  mark_of : (e : Event) → 0 < times event_same e (together lists) → mark_at marks (e.time % 1024) ≡ 1
  mark_of e there = t.marked (e.time % 1024) (omega arith) (some_of e (get_or lists (e.time % 1024) []) (in_slot (λ d. d.time) tick marks lists t e there))

  -- an event so many steps on, or a turn later, isn't there before the first mark
  not_before : (e : Event) → 0 < times event_same e (together lists) → (k : ℕ) → k < f.steps → k < 1024 → (base + 1 + k) % 1024 ≡ e.time % 1024 → ⊥
  not_before e there k l m q =
      let c : 0 ≡ 1 = sym (f.clear k l m) ∙ ap (mark_at marks) q ∙ mark_of e there in
      absurd (omega (arith, c))

  pub ahead_none : get_or lists p [] ≡ [] → (e : Event) → 0 < times event_same e (together lists) → e.time ≤ base + 1024
  ahead_none empty e there =
      let at = f.at in
      elim (cases_lt f.steps 1024) [
        | inl l ↦
            let c : 0 ≡ 1 = sym (t.clear p (omega arith) empty) ∙ f.marked l in
            absurd (omega (arith, c))
        | inr l ↦ absurd (not_before e there ((e.time + 1024 * (base + 1) - (base + 1)) % 1024) (omega arith) (omega arith) (omega arith))
      ]

  ahead_by : (d : Event) → 0 < times event_same d (get_or lists p []) → d.time ≤ base + 1024 → (e : Event) → 0 < times event_same e (together lists) → e.time ≤ base + 1024
  ahead_by d own soon e there =
      let at = f.at in
      let in_it = out_slot (λ x. x.time) tick marks lists t p d own in
      let place = t.placed p d own in
      let late = t.after d in_it in
      let near = t.near e there in
      elim (cases_lt (base + 1024) e.time) [
        | inl far ↦
            elim (cases_lt (d.time - (base + 1)) f.steps) [
              | inl l ↦ absurd (not_before d in_it (d.time - (base + 1)) l (omega arith) (omega arith))
              | inr l ↦ absurd (not_before e there (e.time - 1024 - (base + 1)) (omega arith) (omega arith) (omega arith))
            ]
        | inr l ↦ l
      ]

  pub ahead_first : (xs : List Event) → xs ≡ get_or lists p [] → 0 < length xs → first_time xs ≤ base + 1024 → (e : Event) → 0 < times event_same e (together lists) → e.time ≤ base + 1024
  ahead_first [] is some soon e there = absurd (omega arith)
  ahead_first (x ∷ xs) is some soon e there =
      let own = one_self event_before event_same event_law x in
      let here : 0 < times event_same x (x ∷ xs) = omega arith in
      ahead_by x (subst (λ ys. 0 < times event_same x ys) is here) soon e there

module _ (a : Inside) (v : IsRing a) (base : ℕ) (back : base < a.tick) (fits : (e : Event) → 0 < times event_same e (together a.buckets.items) → e.time ≤ base + 1024) where
  moved : IsTurn (λ e. e.time) base a.marks a.buckets.items
  moved = record {
    number = v.turn.number;
    placed = v.turn.placed;
    after = λ e there. let l = v.turn.after e there in omega arith;
    near = fits;
    marked = v.turn.marked;
    clear = v.turn.clear;
  }

  -- where nothing is at hand
  pub moved_ring : length a.hand ≤ a.taken → (b : Inside) → b.hand ≡ a.hand → b.taken ≡ a.taken → b.tick ≡ base → b.marks ≡ a.marks → b.buckets.items ≡ a.buckets.items → IsRing b
  moved_ring over b hand taken tick marks buckets =
      let none : hand_of b ≡ [] = rw (hand, taken) (drop_all a.taken a.hand over) in
      record {
        taken = rw (hand, taken) v.taken;
        rising = rw none tt;
        begun = λ e there. let z = ap (times event_same e) none in absurd (omega arith);
        turn = rw (tick, marks, buckets) moved;
      }

  -- where what is left at hand, all of one time, goes into its bucket
  module _ (time : ℕ) (told : (place : ℕ) → IfSome (slice_get a.hand place) (λ e. e.time ≡ time)) (after : base < time) (near : time ≤ base + 1024) (p : ℕ) (p_is : p ≡ time % 1024)
      (bucket : List Event) (is : bucket ≡ get_or a.buckets.items p bucket) (empty : bucket ≡ []) (qs : List Event) (filled : qs ≡ hand_of a) where
    within : p < length a.buckets.items
    within = let n = v.turn.number in omega arith

    was_empty : get_or a.buckets.items p [] ≡ []
    was_empty = sym (get_or_read a.buckets.items p bucket within is []) ∙ empty

    own : (e : Event) → 0 < times event_same e qs → e.time ≡ time
    own e there =
        of_time time a.hand told e (times_left a.taken e a.hand (subst (λ xs. 0 < times event_same e xs) filled there))

    pub put_back : (b : Inside) → b.hand ≡ a.hand → b.taken ≡ length a.hand → b.tick ≡ base → b.buckets.items ≡ set a.buckets.items p qs → mark_at b.marks p ≡ 1
        → ((i : ℕ) → i < 1024 → i ≢ p → mark_at b.marks i ≡ mark_at a.marks i) → 0 < length qs → IsRing b
    put_back b hand taken tick buckets mark others some =
        let none : hand_of b ≡ [] = rw (hand, taken) (drop_all (length a.hand) a.hand (omega arith)) in
        record {
          taken = rw (hand, taken) (omega arith);
          rising = rw none tt;
          begun = λ e there. let z = ap (times event_same e) none in absurd (omega arith);
          turn =
              rw (tick, buckets) (turn_set (λ e. e.time) base a.marks a.buckets.items moved p (omega arith) qs b.marks (λ e there.
              let t = own e there in
              (ap (λ n. n % 1024) t ∙ sym p_is, omega arith, omega arith)) (λ l. mark) (λ z. let n = ap length z in absurd (omega arith)) others);
        }

    pub back_order : in_order event_before (drop (length a.hand) a.hand ++ together (set a.buckets.items p qs)) ≡ ring_events a
    back_order =
        in_order-times event_before event_same event_law (drop (length a.hand) a.hand ++ together (set a.buckets.items p qs)) (hand_of a ++ together a.buckets.items) (λ e.
        let m = times-append e (drop (length a.hand) a.hand) (together (set a.buckets.items p qs)) in
        let n = times-append e (hand_of a) (together a.buckets.items) in
        let z = ap (times event_same e) (drop_all (length a.hand) a.hand (omega arith)) in
        let s = times-set p qs a.buckets.items within e in
        let w = ap (times event_same e) was_empty in
        let f = ap (times event_same e) filled in
        omega arith)
