use Rattle.std.proofs.Common.{ap, ◌∙◌, arith}
use Rattle.tw_pending.specs.Order.{count}
use Rattle.tw_pending.proofs.Counts.{step}
use Rattle.tw_pending.proofs.calendar.put_each.Goals as goal

pub loop-event-preserved : goal.loop-event-preserved
loop-event-preserved g c =
    let xs = c.args.events.now in
    let i = c.loop-event.event-index in
    let next = step xs i c.event-item.result c.loop-event-test.true c.event-item.is in
    let inv = c.loop-event.invariant in
    record {
      ring = c.put.ensures.ring;
      today = c.put.ensures.today ∙ inv.today;
      heap = c.put.ensures.heap;
      room = omega (arith, inv.room, c.put.ensures.len, c.put.ensures.capacity);
      all = λ e.
          let before = inv.all e in
          let more = c.put.ensures.all e in
          let left = ap (count g.E.Ord.cmp e) next in
          omega arith;
    }
