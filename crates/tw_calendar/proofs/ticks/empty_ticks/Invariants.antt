use Rattle.std.proofs.Common.{◌≡◌, [], length}
use Rattle.std.specs.List.{All}
use Rattle.tw_calendar.proofs.ticks.empty_ticks.Given as goal

abbrev pub invariant-loop-number : goal.invariant-loop-number
invariant-loop-number l = record {
  long : length l.ticks.items ≡ l.number;
  empty : All (λ events. events ≡ []) l.ticks.items;
}
