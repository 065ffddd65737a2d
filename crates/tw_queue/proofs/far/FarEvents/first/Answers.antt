use Rattle.std.proofs.Common.{slice_get, ap, ◌∙◌, subst}
use Rattle.tw_event.specs.Order.{event_before, event_same}
use Rattle.tw_sim.specs.Rising.{IsRising}
use Rattle.tw_ordered.specs.Buckets.{together}
use Rattle.tw_ordered.proofs.Events.{event_law, least_first}
use Rattle.tw_ordered.proofs.Ordered.{rising-in_order}
use Rattle.tw_queue.proofs.far.FarEvents.first.Goals as goal

pub returns-clause-first : goal.returns-clause-first
returns-clause-first c =
    c.first_of_all.ensures ∙ least_first (together c.self.inside.buckets) ∙ ap (λ xs. slice_get xs 0) c.self.view_is

pub returns-clause-rising : goal.returns-clause-rising
returns-clause-rising c =
    subst (IsRising event_before event_same) c.self.view_is (rising-in_order event_before event_same event_law (together c.self.inside.buckets))
