use Rattle.std.proofs.Common.{◌≡◌, ◌==◌, drop, filter}
use Rattle.tw_ordered.specs.Buckets.{together}
use Rattle.tw_ordered.specs.InOrder.{least_with}
use Rattle.tw_calendar.proofs.wheel.least_of_buckets.Given as goal

abbrev pub invariant-loop-bucket : goal.invariant-loop-bucket
invariant-loop-bucket l =
    least_with l.least (filter (λ e. e.dst == l.router) (together (drop l.bucket-index l.buckets))) ≡ least_with l.fn.first (filter (λ e. e.dst == l.router) (together l.buckets))
