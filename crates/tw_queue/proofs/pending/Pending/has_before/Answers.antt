use Rattle.std.proofs.Common.{arith, ap}
use Rattle.tw_ordered.specs.Queue.{is_before}
use Rattle.tw_calendar.proofs.Early.{found_before, found_behind}
use Rattle.tw_queue.proofs.pending.Pending.has_before.Goals as goal

pub returns-then-has_before : goal.returns-then-has_before
returns-then-has_before c = grind (arith, found_behind)

pub returns-else-has_before : goal.returns-else-has_before
returns-else-has_before c =
    let a = c.self.inside in
    let other = c.has_before-else-has_before in
    found_before (is_before c.args.router c.args.limit) other.result c.has_before.result a.calendar a.rest.events c.args.self.now.events
    (ap (λ q. q.events) c.self.view_is) c.has_before.ensures c.if-has_before.false other.ensures
