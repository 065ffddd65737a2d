use Rattle.std.proofs.Common.{◌==◌, ◌++◌, None, filter, slice_get, ap, sym, ◌∙◌}
use Rattle.tw_event.specs.Order.{event_before, event_same}
use Rattle.tw_ordered.specs.InOrder.{in_order, least_with}
use Rattle.tw_ordered.proofs.Events.{event_law}
use Rattle.tw_ordered.proofs.Ordered.{rising-in_order}
use Rattle.tw_calendar.proofs.Removed.{first_passed, least_for_both}
use Rattle.tw_calendar.proofs.calendar.Calendar.least_at.Goals as goal

pub returns : goal.returns
returns c =
    let a = c.self.inside in
    let r = c.args.router in
    c.least_for.ensures ∙ ap (λ o. least_with o (filter (λ e. e.dst == r) a.wheel)) (c.least_at.ensures ∙ first_passed (λ e. e.dst == r) a.ring c.taken.ensures)
    ∙ least_for_both (λ e. e.dst == r) None a.ring a.wheel
    ∙ sym (first_passed (λ e. e.dst == r) (in_order event_before (a.ring ++ a.wheel)) (rising-in_order event_before event_same event_law (a.ring ++ a.wheel)))
    ∙ ap (λ xs. slice_get (filter (λ e. e.dst == r) xs) 0) c.self.view_is
