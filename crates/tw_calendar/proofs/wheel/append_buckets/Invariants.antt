use Rattle.std.proofs.Common.{◌≡◌, ◌++◌, drop}
use Rattle.tw_ordered.specs.Buckets.{together}
use Rattle.tw_calendar.proofs.wheel.append_buckets.Given as goal

abbrev pub invariant-loop-bucket : goal.invariant-loop-bucket
invariant-loop-bucket l =
    l.events.items ++ together (drop l.bucket-index l.buckets) ≡ l.fn.events.items ++ together l.buckets
