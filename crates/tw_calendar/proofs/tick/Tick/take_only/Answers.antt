use Rattle.std.proofs.Common.{◌≡◌, [], ◌∷◌, get_or, rules, arith, ap, ◌∙◌}
use Rattle.tw_event.specs.Order.{event_before}
use Rattle.tw_ordered.specs.InOrder.{in_order}
use Rattle.tw_calendar.proofs.Updates.{only_in_order}
use Rattle.tw_calendar.proofs.tick.Tick.take_only.Goals as goal

pub returns-clause-taken : goal.returns-clause-taken
returns-clause-taken c =
    let more : c.push.new.self.items ≡ c.index-update.result.now ∷ [] = search rules in
    let read : c.index-update.result.now ≡ get_or c.other.inside.updates.items 0 c.index-update.result.now = search rules in
    only_in_order c.other.inside.time c.index-update.result.now c.other.inside.updates.items c.push.new.self.items more (omega arith) read ∙ ap (in_order event_before) c.other.view_is
