use Rattle.std.proofs.Common.{◌<◌, sym, subst}
use Rattle.tw_event.specs.Order.{event_same}
use Rattle.tw_sim.specs.Ordered.{times}
use Rattle.tw_calendar.proofs.Widths.{start_low, start_none}
use Rattle.tw_calendar.proofs.wheel.Wheel.first_start.Goals as goal

pub returns-in-Some : goal.returns-in-Some
returns-in-Some c e there =
    let a = c.self.inside in
    start_low a.base a.marks a.buckets.items c.self.invariant.turn c.first_after.result c.first_after.ensures c.index.result.now c.index.ensures
    c.in-Some.time c.in-Some.ensures e (subst (λ xs. 0 < times event_same e xs) (sym c.self.view_is) there)

pub returns-in-None : goal.returns-in-None
returns-in-None c e there =
    let a = c.self.inside in
    absurd (start_none a.base a.marks a.buckets.items c.self.invariant.turn c.first_after.result c.first_after.ensures c.index.result.now c.index.ensures
    c.in-None.ensures e (subst (λ xs. 0 < times event_same e xs) (sym c.self.view_is) there))
