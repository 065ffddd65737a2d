use Rattle.std.proofs.Common.{◌≡◌, ◌<◌, ◌≤◌, ◌++◌, List, [], ◌∷◌, get_or, set, ap, sym, ◌∙◌, subst, arith}
use Rattle.tw_event.specs.declared.event.Event.{Event}
use Rattle.std.proofs.lemmas.List.{get_or_read}
use Rattle.tw_event.specs.Order.{event_before, event_same}
use Rattle.tw_sim.specs.Ordered.{insert, times}
use Rattle.tw_ordered.specs.Buckets.{together}
use Rattle.tw_ordered.specs.InOrder.{in_order}
use Rattle.tw_calendar.specs.Turn.{IsTurn}
use Rattle.tw_calendar.specs.Wheel.{width_of}
use Rattle.tw_calendar.proofs.Turns.{order_put, turn_put}
use Rattle.tw_calendar.proofs.Widths.{begun_low, start_put}
use Rattle.tw_calendar.proofs.wheel.Wheel.insert.Goals as goal

-- what the bucket had
pushed : (c : goal.After-self-2-1) → c.push.new.self ≡ get_or c.self.inside.buckets.items c.slot_of-slot.result [] ++ c.args.event.now ∷ []
pushed c =
    let a = c.self.inside in
    let e = c.args.event.now in
    let i = c.slot_of-slot.result in
    let at = c.slot_of-slot.ensures in
    let n = c.self.invariant.turn.number in
    let xs = c.index_mut.result.now in
    let is : xs ≡ get_or a.buckets.items i xs = rw c.reuse_memory.ensures at c.index_mut.ensures.value in
    c.if-not-push.ensures.added ∙ ap (λ ys. ys ++ e ∷ []) (get_or_read a.buckets.items i xs (omega arith) is [])

abbrev slots : (c : goal.After-self-2-1) → List (List Event) → List (List Event)
slots c lists = set lists c.slot_of-slot.result c.push.new.self

pub invariant_of-self-2 : goal.invariant_of-self-2
invariant_of-self-2 c =
    let a = c.self.inside in
    let v = c.self.invariant in
    let m = c.set in
    let e = c.args.event.now in
    let at = c.slot_of-slot.ensures in
    let ahead = c.if-not-is_ahead.ensures in
    let least = c.min-self-inside.ensures in
    let own = begun_low e.time e (omega arith) in
    let number = v.turn.number in
    record {
      turn =
          subst (λ lists. IsTurn width_of a.base m.new.self (slots c lists)) (sym c.reuse_memory.ensures)
          (turn_put width_of a.base a.marks a.buckets.items v.turn e c.slot_of-slot.result at ahead.0 ahead.1 c.push.new.self (pushed c) m.new.self m.ensures.marked m.ensures.others);
      start =
          subst (λ lists. (d : Event) → 0 < times event_same d (together (slots c lists)) → c.min-self-inside.result ≤ d.time) (sym c.reuse_memory.ensures)
          (start_put a.start _ e c.slot_of-slot.result a.buckets.items (omega arith) c.push.new.self (pushed c) v.start (omega arith) (omega arith));
    }

pub returns-clause-added : goal.returns-clause-added
returns-clause-added c =
    let a = c.self.inside in
    let v = c.self.invariant in
    let m = c.set in
    let e = c.args.event.now in
    let ahead = c.if-not-is_ahead.ensures in
    ap (λ lists. in_order event_before (together (slots c lists))) c.reuse_memory.ensures
    ∙ (order_put width_of a.base a.marks a.buckets.items v.turn e c.slot_of-slot.result c.slot_of-slot.ensures ahead.0 ahead.1 c.push.new.self (pushed c) m.new.self m.ensures.marked
    m.ensures.others [] ∙ ap (insert event_before e) c.self.view_is)
