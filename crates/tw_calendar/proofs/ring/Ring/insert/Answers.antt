use Rattle.std.proofs.Common.{◌≡◌, ◌++◌, [], ◌∷◌, get_or, set, ap, sym, ◌∙◌, subst, arith}
use Rattle.std.proofs.lemmas.List.{get_or_read}
use Rattle.tw_event.specs.Order.{event_before}
use Rattle.tw_sim.specs.Ordered.{insert}
use Rattle.tw_ordered.specs.Buckets.{together}
use Rattle.tw_ordered.specs.InOrder.{in_order}
use Rattle.tw_calendar.specs.Turn.{IsTurn}
use Rattle.tw_calendar.specs.Ring.{hand_of}
use Rattle.tw_calendar.proofs.Turns.{order_put, turn_put}
use Rattle.tw_calendar.proofs.ring.Ring.insert.Goals as goal

-- what the bucket had, and the event
pushed : (c : goal.After-set) → c.push.new.self ≡ get_or c.self.inside.buckets.items c.slot_of-slot.result [] ++ c.args.event.now ∷ []
pushed c =
    let a = c.self.inside in
    let i = c.slot_of-slot.result in
    let at = c.slot_of-slot.ensures in
    let n = c.self.invariant.turn.number in
    let xs = c.index_mut.result.now in
    let is : xs ≡ get_or a.buckets.items i xs = rw c.reuse_memory.ensures at c.index_mut.ensures.value in
    c.if-not-push.ensures.added ∙ (λ k. get_or_read a.buckets.items i xs (omega arith) is [] k ++ c.in-Some.ensures k ∷ [])

pub invariant_of-self-2 : goal.invariant_of-self-2
invariant_of-self-2 c =
    let a = c.self.inside in
    let v = c.self.invariant in
    let m = c.set in
    let ahead = c.if-not-is_ahead.ensures in
    record {
      taken = v.taken;
      rising = v.rising;
      begun = v.begun;
      turn =
          subst (λ lists. IsTurn (λ e. e.time) a.tick m.new.self (set lists c.slot_of-slot.result c.push.new.self)) (sym c.reuse_memory.ensures)
          (turn_put (λ e. e.time) a.tick a.marks a.buckets.items v.turn c.args.event.now c.slot_of-slot.result c.slot_of-slot.ensures ahead.0 ahead.1 c.push.new.self (pushed c) m.new.self m.ensures.marked
          m.ensures.others);
    }

pub returns-clause-added : goal.returns-clause-added
returns-clause-added c =
    let a = c.self.inside in
    let v = c.self.invariant in
    let m = c.set in
    let e = c.args.event.now in
    let ahead = c.if-not-is_ahead.ensures in
    ap (λ lists. in_order event_before (hand_of a ++ together (set lists c.slot_of-slot.result c.push.new.self))) c.reuse_memory.ensures
    ∙ (order_put (λ e. e.time) a.tick a.marks a.buckets.items v.turn e c.slot_of-slot.result c.slot_of-slot.ensures ahead.0 ahead.1 c.push.new.self (pushed c) m.new.self m.ensures.marked
    m.ensures.others (hand_of a) ∙ ap (insert event_before e) c.self.view_is)
