use Rattle.std.proofs.Common.{slice_get, ap, subst, ◌∙◌}
use Rattle.tw_event.specs.Order.{event_before, event_same}
use Rattle.tw_sim.specs.Rising.{IsRising}
use Rattle.tw_ordered.specs.Buckets.{together}
use Rattle.tw_ordered.proofs.Events.{event_law}
use Rattle.tw_ordered.proofs.Ordered.{rising-in_order}
use Rattle.tw_calendar.proofs.Widths.{least_of_bucket}
use Rattle.tw_calendar.proofs.wheel.Wheel.least.Goals as goal

pub returns-clause-least : goal.returns-clause-least
returns-clause-least c =
    let a = c.self.inside in
    c.least.ensures
    ∙ least_of_bucket a.base a.marks a.buckets.items c.self.invariant.turn c.first_after.result c.first_after.ensures c.index.result.now c.index.ensures
    ∙ ap (λ xs. slice_get xs 0) c.self.view_is

pub returns-clause-rising : goal.returns-clause-rising
returns-clause-rising c =
    subst (λ xs. IsRising event_before event_same xs) c.self.view_is (rising-in_order event_before event_same event_law (together c.self.inside.buckets.items))
