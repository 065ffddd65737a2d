use Rattle.std.proofs.Common.{ap, arith}
use Rattle.tw_event.specs.Order.{event_before, event_same}
use Rattle.tw_sim.specs.Ordered.{times}
use Rattle.tw_sim.proofs.Ordered.{times-insert}
use Rattle.tw_calendar.proofs.Stacked.{popped}
use Rattle.tw_calendar.proofs.wheel.put_each.Goals as goal

pub loop-event-preserved : goal.loop-event-preserved
loop-event-preserved c = record {
  all = λ e.
      let p = popped e c.in-Some.event.now c.loop-event.events c.in-Some.ensures.some in
      let q = ap (times event_same e) c.pop.ensures in
      let m = ap (times event_same e) c.if-not-insert.ensures.added in
      let n = times-insert event_before event_same e c.in-Some.event.now c.loop-event.ring in
      let v = c.loop-event.invariant.all e in
      omega arith;
  fewer = λ e.
      let p = popped e c.in-Some.event.now c.loop-event.events c.in-Some.ensures.some in
      let q = ap (times event_same e) c.pop.ensures in
      let v = c.loop-event.invariant.fewer e in
      omega arith;
}
