use Rattle.std.proofs.Common.{◌≡◌, ◌<◌, ◌≤◌, ◌++◌, List, [], drop, length, get_or, set, ap, sym, ◌∙◌, subst, arith}
use Rattle.tw_event.specs.declared.event.Event.{Event}
use Rattle.tw_event.specs.Order.{event_before, event_same}
use Rattle.tw_sim.specs.Ordered.{times}
use Rattle.tw_sim.specs.Rising.{IsRising}
use Rattle.tw_ordered.specs.Buckets.{together}
use Rattle.tw_ordered.specs.InOrder.{in_order}
use Rattle.tw_calendar.specs.Ring.{hand_of}
use Rattle.tw_ordered.specs.Times.{first_time}
use Rattle.tw_ordered.proofs.Events.{event_law}
use Rattle.tw_ordered.proofs.Released.{no_length}
use Rattle.tw_ordered.proofs.Ordered.{length-in_order, rising-in_order}
use Rattle.tw_calendar.proofs.Rings.{begin_after, begin_begun, begin_order, begun_ring, drop_more, later_ticks, read_first, rest_taken, rising_rest, some_left, times_rest}
use Rattle.tw_calendar.proofs.Turns.{none_marked}
use Rattle.tw_calendar.proofs.ring.Ring.skip_least.Goals as goal

pub invariant_of-self : goal.invariant_of-self
invariant_of-self c =
    let a = c.self.inside in
    let v = c.self.invariant in
    let l : a.taken < length a.hand = omega (arith, c.len.ensures, c.if-self-len.true) in
    let next = drop_more a.taken a.hand in
    record {
      taken = omega arith;
      rising = subst (λ xs. IsRising event_before event_same xs) (sym next) (rising_rest (hand_of a) v.rising);
      begun = λ e there. v.begun e (times_rest e (hand_of a) (subst (λ xs. 0 < times event_same e xs) next there));
      turn = v.turn;
    }

pub returns-then-self-len : goal.returns-then-self-len
returns-then-self-len c =
    let a = c.self.inside in
    let v = c.self.invariant in
    let l : a.taken < length a.hand = omega (arith, c.len.ensures, c.if-self-len.true) in
    ap (λ hand. in_order event_before (hand ++ together a.buckets.items)) (drop_more a.taken a.hand)
    ∙ rest_taken a.tick (together a.buckets.items) v.turn.after (hand_of a) (some_left a.taken a.hand l) v.rising v.begun ∙ ap (drop 1) c.self.view_is

over : (lists : List (List Event)) (now : List Event) → in_order event_before (together lists) ≡ now → together lists ≡ [] → now ≡ []
unfolding in_order
over lists now h none = sym h ∙ ap (in_order event_before) none

pub returns-then-len-eq0 : goal.returns-then-len-eq0
returns-then-len-eq0 c =
    let a = c.self.inside in
    let v = c.self.invariant in
    let p = c.first_after-place.result in
    let f = c.first_after-place.ensures in
    let b = c.index in
    let old = read_first a v p f b.result.now b.ensures in
    let beyond : length a.hand ≤ a.taken = omega (arith, c.len.ensures, c.if-self-len.false) in
    let none = none_marked (λ e. e.time) a.tick a.marks a.buckets.items v.turn p f (no_length (get_or a.buckets.items p []) (omega (arith, c.len-2.ensures, ap length old, c.if-len-eq0.true))) in
    let z = over a.buckets.items c.args.self.now (later_ticks a.hand a.taken a.buckets.items c.args.self.now beyond c.self.view_is) none in
    z ∙ ap (drop 1) (sym z)

pub invariant_of-self-2 : goal.invariant_of-self-2
invariant_of-self-2 c =
    let a = c.self.inside in
    let v = c.self.invariant in
    let p = c.first_after-place.result in
    let f = c.first_after-place.ensures in
    let m = c.set in
    let b = c.index in
    let b2 = c.index_mut-bucket in
    let old = read_first a v p f b.result.now b.ensures in
    let read = read_first a v p f b2.result.now b2.ensures.value in
    let filled : c.take_over.new.self ≡ in_order event_before (get_or a.buckets.items p []) = c.take_over.ensures.events ∙ ap (in_order event_before) read in
    let some : 0 < length (get_or a.buckets.items p []) = omega (arith, c.len-2.ensures, ap length old, c.if-len-eq0.false) in
    let beyond : length a.hand ≤ a.taken = omega (arith, c.len.ensures, c.if-self-len.false) in
    let long = ap length filled ∙ length-in_order event_before event_same (get_or a.buckets.items p []) in
    begun_ring a _ v p f some filled (omega (arith, some, long)) (c.first_time-self-inside.ensures ∙ ap first_time read) (ap (set a.buckets.items p) c.take_over.ensures.empty) m.ensures.clear m.ensures.others

pub returns : goal.returns
returns c =
    let a = c.self.inside in
    let v = c.self.invariant in
    let p = c.first_after-place.result in
    let f = c.first_after-place.ensures in
    let m = c.set in
    let b = c.index in
    let b2 = c.index_mut-bucket in
    let old = read_first a v p f b.result.now b.ensures in
    let read = read_first a v p f b2.result.now b2.ensures.value in
    let filled : c.take_over.new.self ≡ in_order event_before (get_or a.buckets.items p []) = c.take_over.ensures.events ∙ ap (in_order event_before) read in
    let some : 0 < length (get_or a.buckets.items p []) = omega (arith, c.len-2.ensures, ap length old, c.if-len-eq0.false) in
    let beyond : length a.hand ≤ a.taken = omega (arith, c.len.ensures, c.if-self-len.false) in
    let long = length-in_order event_before event_same (get_or a.buckets.items p []) in
    rw (filled, c.take_over.ensures.empty) (rest_taken (first_time (get_or a.buckets.items p [])) (together (set a.buckets.items p []))
    (begin_after a.tick a.marks a.buckets.items v.turn p f m.new.self m.ensures.clear m.ensures.others some) (in_order event_before (get_or a.buckets.items p []))
    (omega (arith, some, long)) (rising-in_order event_before event_same event_law (get_or a.buckets.items p [])) (begin_begun a.tick a.marks a.buckets.items v.turn p f)
    ∙ ap (drop 1) (begin_order a.tick a.marks a.buckets.items v.turn p f ∙ later_ticks a.hand a.taken a.buckets.items c.args.self.now beyond c.self.view_is))
