use Rattle.std.proofs.Common.{◌++◌, sym, ap, ◌∙◌, arith}
use Rattle.tw_event.specs.Order.{event_before}
use Rattle.tw_ordered.specs.InOrder.{in_order}
use Rattle.tw_ordered.specs.Times.{first_time}
use Rattle.tw_calendar.proofs.Merged.{first_time_of, sooner_ring}
use Rattle.tw_calendar.proofs.calendar.Calendar.least_time.Goals as goal

pub returns-then-time-soonest : goal.returns-then-time-soonest
returns-then-time-soonest c =
    let a = c.self.inside in
    let first = sooner_ring a.ring a.wheel c.soonest.result c.taken.ensures (omega (arith, c.soonest.type_inv)) (omega (arith, sym c.least_time-time.ensures, c.if-time-soonest.true)) c.soonest.ensures in
    c.least_time-time.ensures ∙ sym (first_time_of (in_order event_before (a.ring ++ a.wheel)) a.ring first) ∙ ap first_time c.self.view_is
