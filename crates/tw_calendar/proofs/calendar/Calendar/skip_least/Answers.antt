use Rattle.tw_event.specs.Order.{event_before, event_same}
use Rattle.tw_sim.specs.Ordered.{times}
use Rattle.tw_ordered.specs.InOrder.{in_order}
use Rattle.std.proofs.Common.{◌++◌, drop, ap, ◌∙◌, arith}
use Rattle.tw_sim.proofs.Ordered.{one_self}
use Rattle.tw_ordered.proofs.Events.{event_law}
use Rattle.tw_calendar.proofs.Merged.{ring_taken}
use Rattle.tw_ordered.proofs.Ordered.{times-take_out}
use Rattle.tw_calendar.proofs.Stacked.{order_less, rest_counts}
use Rattle.tw_calendar.proofs.calendar.Calendar.skip_least.Goals as goal

pub returns-in-None : goal.returns-in-None
returns-in-None c =
    let a = c.self.inside in
    ap (λ ring. in_order event_before (ring ++ a.wheel)) c.skip_least.ensures ∙ ring_taken a.ring a.wheel c.in-None.ensures.ring ∙ ap (drop 1) c.self.view_is

pub returns-in-Some : goal.returns-in-Some
returns-in-Some c =
    let a = c.self.inside in
    let x = c.in-Some.first in
    order_less x a.ring a.wheel a.ring c.remove.new.self c.in-Some.ensures.wheel (λ e.
    let o = one_self event_before event_same event_law x in
    let there = rest_counts x x a.wheel c.in-Some.ensures.there in
    let r = times-take_out event_before event_same event_law e x a.wheel (omega arith) in
    let m = ap (times event_same e) c.remove.ensures.events in
    omega arith) ∙ ap (drop 1) c.self.view_is
