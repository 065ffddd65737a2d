use Rattle.std.proofs.Common.{◌≡◌, ◌++◌, drop}
use Rattle.tw_ordered.specs.Buckets.{together}
use Rattle.tw_calendar.specs.Update.{events_at}
use Rattle.tw_calendar.proofs.ticks.gather.Given as goal

abbrev pub invariant-loop-tick : goal.invariant-loop-tick
invariant-loop-tick l =
    events_at l.time l.updates.items ++ together (drop l.tick-index l.ticks) ≡ events_at l.time l.fn.updates.items ++ together l.ticks
