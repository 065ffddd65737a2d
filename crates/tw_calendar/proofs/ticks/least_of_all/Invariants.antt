use Rattle.std.proofs.Common.{◌≡◌, ◌==◌, drop, filter}
use Rattle.tw_ordered.specs.Buckets.{together}
use Rattle.tw_ordered.specs.InOrder.{least_with}
use Rattle.tw_calendar.proofs.ticks.least_of_all.Given as goal

abbrev pub invariant-loop-tick : goal.invariant-loop-tick
invariant-loop-tick l =
    least_with l.least (filter (λ e. e.dst == l.router) (together (drop l.tick-index l.ticks))) ≡ least_with l.fn.first (filter (λ e. e.dst == l.router) (together l.ticks))
