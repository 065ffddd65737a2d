use Rattle.std.proofs.Common.{◌≡◌, ◌==◌, drop, filter}
use Rattle.tw_ordered.specs.InOrder.{least_with}
use Rattle.tw_calendar.proofs.bucket.least_for.Given as goal

abbrev pub invariant-loop-event : goal.invariant-loop-event
invariant-loop-event l =
    least_with l.least (filter (λ e. e.dst == l.router) (drop l.event-index l.events)) ≡ least_with l.fn.first (filter (λ e. e.dst == l.router) l.events)
