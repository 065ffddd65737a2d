use Rattle.std.proofs.Common.{◌<◌, length, ap, ◌∙◌, refl, arith}
use Rattle.tw_event.specs.Order.{event_same}
use Rattle.tw_sim.specs.Ordered.{take_out, times}
use Rattle.tw_calendar.proofs.Removed.{bucket_count, bucket_order, found_by, hand_count, hand_less, hand_order}
use Rattle.tw_calendar.proofs.Turns.{turn_taken}
use Rattle.tw_calendar.proofs.Widths.{marked_more, marked_none}
use Rattle.tw_calendar.proofs.ring.Ring.remove.Goals as goal

pub invariant_of-self : goal.invariant_of-self
invariant_of-self c =
    let a = c.self.inside in
    hand_less a c.self.invariant c.args.event.now (omega (arith, c.if-event-self.true)) _ c.remove.ensures.left _ refl refl refl c.remove.ensures.within refl

pub returns-then-event-self-clause-found : goal.returns-then-event-self-clause-found
returns-then-event-self-clause-found c =
    let a = c.self.inside in
    let e = c.args.event.now in
    found_by c.remove.result _ _ (hand_count a c.self.invariant e (omega (arith, c.if-event-self.true)) ∙ ap (times event_same e) c.self.view_is) c.remove.ensures.found

pub returns-then-event-self-clause-events : goal.returns-then-event-self-clause-events
returns-then-event-self-clause-events c =
    let a = c.self.inside in
    let e = c.args.event.now in
    hand_order a c.self.invariant e (omega (arith, c.if-event-self.true)) _ c.remove.ensures.left ∙ ap (take_out event_same e) c.self.view_is

pub invariant_of-self-2 : goal.invariant_of-self-2
invariant_of-self-2 c =
    let a = c.self.inside in
    let v = c.self.invariant in
    let m = c.set in
    record {
      taken = v.taken;
      rising = v.rising;
      begun = v.begun;
      turn =
          turn_taken (λ e. e.time) a.tick a.marks a.buckets.items v.turn c.args.event.now c.slot_of-slot.result c.slot_of-slot.ensures c.index_mut-bucket.result.now c.index_mut-bucket.ensures.value c.remove-found.new.self
          c.remove-found.ensures.left m.new.self (λ l. marked_more c.len-has_more.result (omega (arith, c.len-has_more.ensures, l)) m.ensures.marked)
          (λ z. marked_none c.len-has_more.result (c.len-has_more.ensures ∙ ap length z) m.ensures.clear) m.ensures.others;
    }

late : (c : goal.After-set) → c.self.inside.tick < c.args.event.now.time
late c = omega (arith, c.if-event-self.false)

pub returns-clause-found : goal.returns-clause-found
returns-clause-found c =
    let a = c.self.inside in
    let e = c.args.event.now in
    found_by c.remove-found.result _ _
    (bucket_count a c.self.invariant e (late c) c.slot_of-slot.result c.slot_of-slot.ensures c.index_mut-bucket.result.now c.index_mut-bucket.ensures.value ∙ ap (times event_same e) c.self.view_is)
    c.remove-found.ensures.found

pub returns-clause-events : goal.returns-clause-events
returns-clause-events c =
    let a = c.self.inside in
    let e = c.args.event.now in
    bucket_order a c.self.invariant e (late c) c.slot_of-slot.result c.slot_of-slot.ensures c.index_mut-bucket.result.now c.index_mut-bucket.ensures.value c.remove-found.new.self c.remove-found.ensures.left
    ∙ ap (take_out event_same e) c.self.view_is
