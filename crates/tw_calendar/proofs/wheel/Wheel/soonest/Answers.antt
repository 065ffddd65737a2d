use Rattle.std.proofs.Common.{◌<◌, sym, subst}
use Rattle.tw_event.specs.Order.{event_same}
use Rattle.tw_sim.specs.Ordered.{times}
use Rattle.tw_ordered.specs.Buckets.{together}
use Rattle.tw_calendar.proofs.Widths.{of_all}
use Rattle.tw_calendar.proofs.wheel.Wheel.soonest.Goals as goal

pub returns : goal.returns
returns c e there =
    let a = c.self.inside in
    c.self.invariant.start e (of_all e (together a.buckets.items) (subst (λ xs. 0 < times event_same e xs) (sym c.self.view_is) there))
