use Rattle.std.proofs.Common.{refl, ap, sym, ◌∙◌}
use Rattle.tw_event.specs.Order.{event_before, event_same}
use Rattle.tw_sim.specs.Ordered.{take_out, times}
use Rattle.tw_ordered.specs.Buckets.{together}
use Rattle.tw_calendar.specs.Wheel.{width_of}
use Rattle.tw_ordered.proofs.Events.{event_law}
use Rattle.tw_ordered.proofs.Ordered.{times-in_order}
use Rattle.tw_ordered.proofs.Places.{count_times}
use Rattle.tw_calendar.proofs.Turns.{placed_count}
use Rattle.tw_calendar.proofs.wheel.Wheel.count.Goals as goal

pub returns-clause-times : goal.returns-clause-times
returns-clause-times c =
    let a = c.self.inside in
    let e = c.args.event.now in
    let bucket = c.index.result.now in
    c.count_of.ensures ∙ count_times e c.events.result.now ∙ ap (times event_same e) c.events.ensures
    ∙ sym (placed_count width_of a.base a.marks a.buckets.items c.self.invariant.turn e c.slot_of-slot.result c.slot_of-slot.ensures bucket c.index.ensures (take_out event_same e bucket) refl)
    ∙ sym (times-in_order event_before event_same event_law e (together a.buckets.items)) ∙ ap (times event_same e) c.self.view_is
