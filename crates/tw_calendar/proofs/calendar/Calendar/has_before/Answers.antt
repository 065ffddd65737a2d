use Rattle.tw_ordered.specs.Queue.{is_before}
use Rattle.tw_calendar.proofs.Early.{found_first, found_next}
use Rattle.tw_calendar.proofs.calendar.Calendar.has_before.Goals as goal

pub returns-then-has_before : goal.returns-then-has_before
returns-then-has_before c =
    let a = c.self.inside in
    let found = c.has_before.result in
    found_first (is_before c.args.router c.args.limit) found found a.ring a.wheel c.args.self.now c.self.view_is c.has_before.ensures c.if-has_before.true

pub returns-else-has_before : goal.returns-else-has_before
returns-else-has_before c =
    let a = c.self.inside in
    let other = c.has_before-else-has_before in
    found_next (is_before c.args.router c.args.limit) c.has_before.result other.result a.ring a.wheel c.args.self.now c.self.view_is c.has_before.ensures
    c.if-has_before.false other.ensures
