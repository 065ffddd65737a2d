use Rattle.std.proofs.Common.{◌≡◌, ◌++◌, drop}
use Rattle.tw_ordered.specs.Buckets.{together}
use Rattle.tw_calendar.proofs.ticks.append_all.Given as goal

abbrev pub invariant-loop-tick : goal.invariant-loop-tick
invariant-loop-tick l =
    l.events.items ++ together (drop l.tick-index l.ticks) ≡ l.fn.events.items ++ together l.ticks
