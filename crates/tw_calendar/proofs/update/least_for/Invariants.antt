use Rattle.std.proofs.Common.{◌≡◌, ◌==◌, drop, filter}
use Rattle.tw_ordered.specs.InOrder.{least_with}
use Rattle.tw_calendar.specs.Update.{events_at}
use Rattle.tw_calendar.proofs.update.least_for.Given as goal

abbrev pub invariant-loop-update : goal.invariant-loop-update
invariant-loop-update l =
    least_with l.least (filter (λ e. e.dst == l.router) (events_at l.time (drop l.update-index l.updates))) ≡ least_with l.fn.first (filter (λ e. e.dst == l.router) (events_at l.time l.updates))
