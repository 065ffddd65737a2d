use Rattle.std.proofs.Common.{[], ◌≡◌, ◌≤◌, ◌<◌, ◌+◌, ◌-◌, ◌++◌, List, drop, length, get_or, set, ap, ◌∙◌, refl, arith}
use Rattle.tw_event.specs.declared.event.Event.{Event}
use Rattle.tw_event.specs.Order.{event_before, event_same}
use Rattle.tw_ordered.specs.InOrder.{in_order}
use Rattle.tw_sim.specs.Ordered.{times}
use Rattle.tw_ordered.specs.Buckets.{together}
use Rattle.tw_calendar.proofs.Rings.{some_left}
use Rattle.tw_calendar.proofs.Stepped.{back_order, put_back}
use Rattle.tw_calendar.proofs.ring.Ring.step_back.Goals as goal

back : (c : goal.After-self-4-1) → c.args.time - 1 < c.self.inside.tick
back c = omega (arith, c.if-time-eq0.false, c.if-time-self.false)

fits : (c : goal.After-self-4-1) → (e : Event) → 0 < times event_same e (together c.self.inside.buckets.items) → e.time ≤ c.args.time - 1 + 1024
fits c e there =
    let l : (d : Event) → 0 < times event_same d (together c.self.inside.buckets.items) → d.time ≤ c.args.time - 1 + 1024 = rw c.deref.ensures.value at c.if-not-are_ahead.ensures in
    l e there

read : (c : goal.After-self-4-1) → c.index_mut.result.now ≡ get_or c.self.inside.buckets.items c.slot_of-slot.result c.index_mut.result.now
read c = rw c.reuse_memory.ensures at c.index_mut.ensures.value

empty : (c : goal.After-self-4-1) → c.index_mut.result.now ≡ []
empty c =
    c.if-not-refill.ensures.empty

some : (c : goal.After-self-4-1) → 0 < length c.refill.new.self
some c =
    let a = c.self.inside in
    let l = some_left a.taken a.hand (omega (arith, c.len.ensures, c.if-self-len.false)) in
    let n = ap length c.if-not-refill.ensures.filled in
    omega arith

abbrev slots : (c : goal.After-self-4-1) → List (List Event) → List (List Event)
slots c lists = set lists c.slot_of-slot.result c.refill.new.self

pub invariant_of-self-2 : goal.invariant_of-self-2
invariant_of-self-2 c =
    let a = c.self.inside in
    let ahead = c.if-not-is_ahead.ensures in
    let m = c.set in
    put_back a c.self.invariant (c.args.time - 1) (back c) (fits c) c.time-begun.result c.time-begun.ensures ahead.0 ahead.1 c.slot_of-slot.result c.slot_of-slot.ensures c.index_mut.result.now
    (read c) (empty c) c.refill.new.self c.if-not-refill.ensures.filled _ refl c.len-self-inside.ensures refl (ap (slots c) c.reuse_memory.ensures) m.ensures.marked m.ensures.others (some c)

pub returns : goal.returns
returns c =
    let a = c.self.inside in
    let ahead = c.if-not-is_ahead.ensures in
    rw c.len-self-inside.ensures
    (ap (λ lists. in_order event_before (drop (length a.hand) a.hand ++ together (slots c lists))) c.reuse_memory.ensures
    ∙ (back_order a c.self.invariant (c.args.time - 1) (back c) (fits c) c.time-begun.result c.time-begun.ensures ahead.0 ahead.1 c.slot_of-slot.result c.slot_of-slot.ensures
    c.index_mut.result.now (read c) (empty c) c.refill.new.self c.if-not-refill.ensures.filled ∙ c.self.view_is))
