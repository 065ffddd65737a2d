use Rattle.std.proofs.Common.{ap, arith}
use Rattle.tw_event.specs.Order.{event_before, event_same}
use Rattle.tw_sim.specs.Ordered.{times}
use Rattle.tw_ordered.specs.Buckets.{together}
use Rattle.tw_ordered.proofs.Events.{event_law}
use Rattle.tw_ordered.proofs.Lists.{times-append}
use Rattle.tw_ordered.proofs.Told.{on_ok}
use Rattle.tw_ordered.proofs.Ordered.{times-in_order}
use Rattle.tw_calendar.proofs.Widths.{none_there}
use Rattle.tw_calendar.proofs.wheel.Wheel.append_to.Goals as goal

pub returns-then-len-eq0 : goal.returns-then-len-eq0
returns-then-len-eq0 c e =
    let a = c.self.inside in
    let z =
    none_there a.base a.marks a.buckets.items c.self.invariant.turn c.first_after.result c.first_after.ensures c.index.result.now c.index.ensures (omega (arith, c.len.ensures, c.if-len-eq0.true)) e in
    let f = ap (times event_same e) c.self.view_is in
    omega arith

pub returns : goal.returns
returns c =
    on_ok c.append_buckets.result (λ more e.
    let all = together c.self.inside.buckets.items in
    let a = ap (times event_same e) more in
    let b = times-append e c.args.events.now.items all in
    let d = times-in_order event_before event_same event_law e all in
    let f = ap (times event_same e) c.self.view_is in
    omega arith) (rw c.deref.ensures.value at c.append_buckets.ensures)
