use Rattle.std.proofs.Common.{◌≡◌, drop}
use Rattle.tw_ordered.specs.InOrder.{least_with}
use Rattle.tw_ordered.proofs.search.least_of.Given as goal

abbrev pub invariant-loop-event : goal.invariant-loop-event
invariant-loop-event l = least_with l.least (drop l.event-index l.events) ≡ least_with l.fn.first l.events
