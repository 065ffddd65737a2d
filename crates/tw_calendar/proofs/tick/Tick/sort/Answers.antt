use Rattle.std.proofs.Common.{ap, ◌∙◌}
use Rattle.tw_event.specs.Order.{event_before, event_same}
use Rattle.tw_sim.specs.Ordered.{times}
use Rattle.tw_calendar.specs.Update.{events_at}
use Rattle.tw_ordered.proofs.Events.{event_law}
use Rattle.tw_ordered.proofs.Ordered.{times-in_order}
use Rattle.tw_calendar.proofs.Updates.{sorted_updates}
use Rattle.tw_calendar.proofs.tick.Tick.sort.Goals as goal

pub returns-then-len-gt1 : goal.returns-then-len-gt1
returns-then-len-gt1 c e =
    let a = c.self.inside in
    let s = c.sort_unstable.ensures in
    ap (times event_same e) (sorted_updates a.time a.updates.items c.sort_unstable.new.self.items s.permutation s.sorted)
    ∙ times-in_order event_before event_same event_law e (events_at a.time a.updates.items) ∙ ap (times event_same e) c.self.view_is
