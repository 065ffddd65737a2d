use Rattle.tw_event.specs.Order.{event_before, event_same}
use Rattle.tw_sim.specs.Ordered.{insert, times}
use Rattle.std.proofs.Common.{ap, ◌∙◌, arith}
use Rattle.tw_sim.proofs.Ordered.{times-insert}
use Rattle.tw_ordered.proofs.Told.{on_true}
use Rattle.tw_calendar.proofs.Stacked.{order_more}
use Rattle.tw_calendar.proofs.calendar.Calendar.insert.Goals as goal

pub returns-then-insert-clause-added : goal.returns-then-insert-clause-added
returns-then-insert-clause-added c =
    let a = c.self.inside in
    let x = c.args.event.now in
    order_more x a.ring a.wheel c.insert.new.self a.wheel (λ e.
    let m = ap (times event_same e) c.if-insert.ensures.added in
    let n = times-insert event_before event_same e x a.ring in
    omega arith) ∙ ap (insert event_before x) c.self.view_is

pub returns-clause-added : goal.returns-clause-added
returns-clause-added c =
    on_true c.insert-2.result (λ more.
    let a = c.self.inside in
    let x = c.args.event.now in
    order_more x a.ring a.wheel c.insert.new.self c.insert-2.new.self (λ e.
    let s = ap (times event_same e) c.if-insert.ensures.same in
    let m = ap (times event_same e) more in
    let n = times-insert event_before event_same e x a.wheel in
    omega arith) ∙ ap (insert event_before x) c.self.view_is) c.insert-2.ensures.added
