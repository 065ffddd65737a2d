use Rattle.std.proofs.Common.{ap, arith}
use Rattle.tw_event.specs.Order.{event_same}
use Rattle.tw_sim.specs.Ordered.{times}
use Rattle.tw_calendar.proofs.Stacked.{same_order}
use Rattle.tw_calendar.proofs.calendar.send_down.Goals as goal

pub returns : goal.returns
returns c =
    same_order c.args.ring.now c.args.wheel.now c.send_down.new.ring c.send_down.new.self (λ e.
    let r = ap (times event_same e) c.go_to.ensures in
    let w = ap (times event_same e) c.go_to-2.ensures in
    let s = c.send_down.ensures e in
    omega arith)
