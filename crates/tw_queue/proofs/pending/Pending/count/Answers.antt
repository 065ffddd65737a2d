use Rattle.std.proofs.Common.{ap, sym, arith}
use Rattle.tw_event.specs.Order.{event_same}
use Rattle.tw_sim.specs.Ordered.{times}
use Rattle.tw_queue.proofs.Halves.{none_pending, times-length}
use Rattle.tw_calendar.proofs.Stacked.{times_both}
use Rattle.tw_queue.proofs.pending.Pending.count.Goals as goal

pub returns-then-self-eq0 : goal.returns-then-self-eq0
returns-then-self-eq0 c =
    let a = c.self.inside in
    let n = c.self.invariant.len in
    ap (times event_same c.args.event.now) (sym (none_pending a.calendar a.rest.events c.args.self.now.events (ap (λ q. q.events) c.self.view_is) (omega (arith, c.if-self-eq0.true))))

pub overflow_add-result : goal.overflow_add-result
overflow_add-result c = grind (arith, times-length)

pub returns : goal.returns
returns c = grind (arith, times_both)
