use Rattle.std.proofs.Common.{◌<◌, ◌↔◌, IsTrue, length, ap, ◌∙◌, subst, arith}
use Rattle.tw_event.specs.Order.{event_same}
use Rattle.tw_sim.specs.Ordered.{take_out, times}
use Rattle.tw_calendar.specs.Wheel.{width_of}
use Rattle.tw_calendar.proofs.Turns.{turn_taken}
use Rattle.tw_calendar.proofs.Widths.{found_there, in_all, marked_more, marked_none, not_found, order_taken, start_taken}
use Rattle.tw_calendar.proofs.wheel.Wheel.remove.Goals as goal

pub invariant_of-self : goal.invariant_of-self
invariant_of-self c =
    let a = c.self.inside in
    let v = c.self.invariant in
    let m = c.set in
    record {
      turn =
          turn_taken width_of a.base a.marks a.buckets.items v.turn c.args.event.now c.slot_of-slot.result c.slot_of-slot.ensures c.index_mut-bucket.result.now c.index_mut-bucket.ensures.value c.remove-found.new.self
          c.remove-found.ensures.events m.new.self (λ l. marked_more c.len-has_more.result (omega (arith, c.len-has_more.ensures, l)) m.ensures.marked)
          (λ z. marked_none c.len-has_more.result (c.len-has_more.ensures ∙ ap length z) m.ensures.clear) m.ensures.others;
      start =
          start_taken a.base a.marks a.buckets.items v.turn c.args.event.now c.slot_of-slot.result c.slot_of-slot.ensures c.index_mut-bucket.result.now c.index_mut-bucket.ensures.value c.remove-found.new.self
          c.remove-found.ensures.events a.start v.start;
    }

pub invariant_of-self-2 : goal.invariant_of-self-2
invariant_of-self-2 c =
    let a = c.self.inside in
    let v = c.self.invariant in
    let m = c.set in
    record {
      turn =
          turn_taken width_of a.base a.marks a.buckets.items v.turn c.args.event.now c.slot_of-slot.result c.slot_of-slot.ensures c.index_mut-bucket.result.now c.index_mut-bucket.ensures.value c.remove-found.new.self
          c.remove-found.ensures.events m.new.self (λ l. marked_more c.len-has_more.result (omega (arith, c.len-has_more.ensures, l)) m.ensures.marked)
          (λ z. marked_none c.len-has_more.result (c.len-has_more.ensures ∙ ap length z) m.ensures.clear) m.ensures.others;
      start = λ e there. c.first_start-self-inside.ensures e (in_all e _ there);
    }

pub returns-clause-found : goal.returns-clause-found
returns-clause-found c =
    let a = c.self.inside in
    subst (λ xs. IsTrue c.remove-found.result ↔ (0 < times event_same c.args.event.now xs)) c.self.view_is
    (found_there a.base a.marks a.buckets.items c.self.invariant.turn c.args.event.now c.slot_of-slot.result c.slot_of-slot.ensures c.index_mut-bucket.result.now c.index_mut-bucket.ensures.value
    c.remove-found.new.self c.remove-found.ensures.events c.remove-found.result c.remove-found.ensures.found)

pub returns-clause-events : goal.returns-clause-events
returns-clause-events c =
    let a = c.self.inside in
    order_taken a.base a.marks a.buckets.items c.self.invariant.turn c.args.event.now c.slot_of-slot.result c.slot_of-slot.ensures c.index_mut-bucket.result.now c.index_mut-bucket.ensures.value
    c.remove-found.new.self c.remove-found.ensures.events ∙ ap (take_out event_same c.args.event.now) c.self.view_is

pub returns-clause-same : goal.returns-clause-same
returns-clause-same c =
    let a = c.self.inside in
    not_found c.remove-found.result c.args.event.now c.args.self.now _ (returns-clause-found c) (returns-clause-events c)
