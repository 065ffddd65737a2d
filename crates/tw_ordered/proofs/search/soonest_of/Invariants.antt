use Rattle.std.proofs.Common.{◌≡◌, drop}
use Rattle.std.specs.Option.{option_copied}
use Rattle.tw_ordered.specs.InOrder.{least_with}
use Rattle.tw_ordered.proofs.search.soonest_of.Given as goal

abbrev pub invariant-loop-event : goal.invariant-loop-event
invariant-loop-event l =
    least_with (option_copied l.least) (drop l.event-index l.events) ≡ least_with (option_copied l.fn.first) l.events
