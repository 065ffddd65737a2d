use Rattle.std.proofs.Common.{◌≡◌, [], length}
use Rattle.std.specs.List.{All}
use Rattle.tw_calendar.proofs.wheel.empty_buckets.Given as goal

abbrev pub invariant-loop-number : goal.invariant-loop-number
invariant-loop-number l = record {
  long : length l.buckets.items ≡ l.number;
  empty : All (λ events. events ≡ []) l.buckets.items;
}
