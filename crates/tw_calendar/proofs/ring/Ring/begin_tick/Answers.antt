use Rattle.std.proofs.Common.{◌≡◌, ◌<◌, ◌≤◌, [], length, get_or, set, ap, ◌∙◌, arith}
use Rattle.tw_event.specs.Order.{event_before}
use Rattle.tw_ordered.specs.InOrder.{in_order}
use Rattle.tw_ordered.specs.Times.{first_time}
use Rattle.tw_calendar.proofs.Rings.{begin_order, begun_ring, later_ticks, read_first}
use Rattle.tw_calendar.proofs.ring.Ring.begin_tick.Goals as goal

pub invariant_of-self : goal.invariant_of-self
invariant_of-self c =
    let a = c.self.inside in
    let v = c.self.invariant in
    let p = c.first_after-place.result in
    let f = c.first_after-place.ensures in
    let m = c.set in
    let b = c.index in
    let b2 = c.index_mut-bucket in
    let old = read_first a v p f b.result.now b.ensures in
    let read = read_first a v p f b2.result.now b2.ensures.value in
    let filled : c.take_over.new.self ≡ in_order event_before (get_or a.buckets.items p []) = c.take_over.ensures.events ∙ ap (in_order event_before) read in
    let some : 0 < length (get_or a.buckets.items p []) = omega (arith, c.len-2.ensures, ap length old, c.if-len-eq0.false) in
    let beyond : length a.hand ≤ a.taken = omega (arith, c.len.ensures, c.if-self-len.false) in
    begun_ring a _ v p f some filled (omega arith) (c.first_time-self-inside.ensures ∙ ap first_time read) (ap (set a.buckets.items p) c.take_over.ensures.empty) m.ensures.clear m.ensures.others

pub returns : goal.returns
returns c =
    let a = c.self.inside in
    let v = c.self.invariant in
    let p = c.first_after-place.result in
    let f = c.first_after-place.ensures in
    let m = c.set in
    let b = c.index in
    let b2 = c.index_mut-bucket in
    let old = read_first a v p f b.result.now b.ensures in
    let read = read_first a v p f b2.result.now b2.ensures.value in
    let filled : c.take_over.new.self ≡ in_order event_before (get_or a.buckets.items p []) = c.take_over.ensures.events ∙ ap (in_order event_before) read in
    let some : 0 < length (get_or a.buckets.items p []) = omega (arith, c.len-2.ensures, ap length old, c.if-len-eq0.false) in
    let beyond : length a.hand ≤ a.taken = omega (arith, c.len.ensures, c.if-self-len.false) in
    rw (filled, c.take_over.ensures.empty) (begin_order a.tick a.marks a.buckets.items v.turn p f ∙ later_ticks a.hand a.taken a.buckets.items c.args.self.now beyond c.self.view_is)
