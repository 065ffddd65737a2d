use Rattle.std.proofs.Common.{◌≡◌, ◌≤◌, length}
use Rattle.std.specs.List.{AllByRecursion}
use Rattle.std.specs.Prelude.{vec_capacity}
use Rattle.tw_parallel.specs.Hands.{IsEmptyHand}
use Rattle.tw_parallel.proofs.hands.open_hands.Given as goal

abbrev pub invariant-loop : goal.invariant-loop
invariant-loop l = record {
  count : length l.hands.items ≡ l.counter;
  room : l.workers ≤ vec_capacity l.hands;
  empty : AllByRecursion IsEmptyHand l.hands.items;
}
