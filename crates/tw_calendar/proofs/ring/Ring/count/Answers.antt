use Rattle.std.proofs.Common.{ap, ◌∙◌, arith}
use Rattle.tw_event.specs.Order.{event_same}
use Rattle.tw_sim.specs.Ordered.{times}
use Rattle.tw_calendar.proofs.Removed.{bucket_count, hand_count}
use Rattle.tw_calendar.proofs.ring.Ring.count.Goals as goal

pub returns-then-event-self-clause-times : goal.returns-then-event-self-clause-times
returns-then-event-self-clause-times c =
    let a = c.self.inside in
    let e = c.args.event.now in
    c.count.ensures.times ∙ hand_count a c.self.invariant e (omega (arith, c.if-event-self.true)) ∙ ap (times event_same e) c.self.view_is

pub returns-clause-times : goal.returns-clause-times
returns-clause-times c =
    let a = c.self.inside in
    let e = c.args.event.now in
    let b = c.index in
    c.count-2.ensures.times ∙ bucket_count a c.self.invariant e (omega (arith, c.if-event-self.false)) c.slot_of.result c.slot_of.ensures b.result.now b.ensures
    ∙ ap (times event_same e) c.self.view_is
