use Rattle.std.proofs.Common.{◌∙◌, sym}
use Rattle.tw_event.specs.Order.{event_before, event_same}
use Rattle.tw_ordered.proofs.Events.{event_law, sorted_list}
use Rattle.tw_ordered.proofs.Ordered.{insert_all_in_order}
use Rattle.tw_calendar.proofs.event_list.EventList.list.Goals as goal

pub returns-clause-events : goal.returns-clause-events
returns-clause-events c =
    let s = c.sort_unstable.ensures in
    sorted_list c.in_ok-events.events.items c.sort_unstable.new.self.items s.permutation s.sorted
    ∙ sym (insert_all_in_order event_before event_same event_law c.in_ok-events.events.items) ∙ c.in_ok-events.ensures.events
