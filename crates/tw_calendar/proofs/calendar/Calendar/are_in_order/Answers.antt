use Rattle.std.proofs.Common.{◌++◌, subst}
use Rattle.tw_event.specs.Order.{event_before, event_same}
use Rattle.tw_sim.specs.Rising.{IsRising}
use Rattle.tw_ordered.proofs.Events.{event_law}
use Rattle.tw_ordered.proofs.Ordered.{rising-in_order}
use Rattle.tw_calendar.proofs.calendar.Calendar.are_in_order.Goals as goal

pub returns : goal.returns
returns c =
    let a = c.self.inside in
    subst (λ xs. IsRising event_before event_same xs) c.self.view_is (rising-in_order event_before event_same event_law (a.ring ++ a.wheel))
