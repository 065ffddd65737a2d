use Rattle.std.proofs.Common.{ap, ◌∙◌}
use Rattle.tw_event.specs.Order.{event_before, event_same}
use Rattle.tw_ordered.specs.InOrder.{in_order}
use Rattle.tw_calendar.specs.Update.{events_at}
use Rattle.tw_ordered.proofs.Events.{event_law}
use Rattle.tw_calendar.proofs.Updates.{sorted_updates}
use Rattle.tw_ordered.proofs.Ordered.{in_order-times}
use Rattle.tw_calendar.proofs.tick.Tick.take_all.Goals as goal
use Rattle.tw_calendar.proofs.tick.Tick.take_all.Goals.{then-deal, else-deal}

pub returns-clause-events : goal.returns-clause-events
returns-clause-events c =
    let s = c.sort_unstable.ensures in
    let sorted = sorted_updates c.self-2.inside.time c.self-2.inside.updates.items c.sort_unstable.new.self.items s.permutation s.sorted ∙ ap (in_order event_before) c.self-2.view_is in
    elim c.if-deal.branch [
      | then-deal w ↦
          sorted ∙ ap (in_order event_before) w.self-is
          ∙ in_order-times event_before event_same event_law c.deal.new.self c.args.other.now w.if-deal.ensures
      | else-deal w ↦ sorted ∙ ap (in_order event_before) (w.self-is ∙ ap (λ v. events_at c.other.inside.time v.items) w.swap.ensures.x_after ∙ c.other.view_is)
    ]
