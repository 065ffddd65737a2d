use Rattle.std.proofs.Common.{◌≡◌, ◌≤◌, [], length}
use Rattle.std.specs.List.{AllByRecursion}
use Rattle.std.specs.Prelude.{vec_capacity}
use Rattle.tw_shard.proofs.shard.vacant.empty_rings.Given as goal

abbrev pub invariant-loop : goal.invariant-loop
invariant-loop l = record {
  count : length l.rings.items ≡ l.counter;
  room : l.fn.count ≤ vec_capacity l.rings;
  empty : AllByRecursion (λ ring. ring ≡ []) l.rings.items;
}
