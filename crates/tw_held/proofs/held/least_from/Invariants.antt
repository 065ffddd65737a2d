use Rattle.std.proofs.Common.{◌≡◌, drop}
use Rattle.std.specs.Option.{option_copied}
use Rattle.tw_held.specs.Held.{sent_by}
use Rattle.tw_ordered.specs.InOrder.{least_with}
use Rattle.tw_held.proofs.held.least_from.Given as goal

abbrev pub invariant-loop-event : goal.invariant-loop-event
invariant-loop-event l =
    least_with (option_copied l.least) (sent_by l.router (drop l.event-index l.events)) ≡ least_with (option_copied l.fn.first) (sent_by l.router l.events)
