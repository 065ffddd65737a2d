use Rattle.std.proofs.Common.{◌≡◌, ◌+◌, ◌*◌, ◌≤◌, drop, length}
use Rattle.std.specs.List.{flat_map}
use Rattle.tw_shard.proofs.shards.count_held.Given as goal

abbrev pub invariant-loop-shard : goal.invariant-loop-shard
invariant-loop-shard l = record {
  sum : l.count + length (flat_map (λ s. s.held) (drop l.shard-index l.shards)) ≡ length (flat_map (λ s. s.held) l.fn.shards);
  fits : l.count ≤ l.shard-index * 18446744073709551616;
}
