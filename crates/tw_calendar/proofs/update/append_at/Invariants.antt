use Rattle.std.proofs.Common.{◌≡◌, ◌++◌, drop}
use Rattle.tw_calendar.specs.Update.{events_at}
use Rattle.tw_calendar.proofs.update.append_at.Given as goal

abbrev pub invariant-loop-update : goal.invariant-loop-update
invariant-loop-update l =
    l.events.items ++ events_at l.time (drop l.update-index l.updates) ≡ l.fn.events.items ++ events_at l.time l.updates
