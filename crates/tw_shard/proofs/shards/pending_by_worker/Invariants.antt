use Rattle.std.proofs.Common.{◌≡◌, ◌++◌, drop}
use Rattle.std.specs.List.{flat_map}
use Rattle.tw_shard.proofs.shards.pending_by_worker.Given as goal

abbrev pub invariant-loop-shard : goal.invariant-loop-shard
invariant-loop-shard l = l.events.items ++ flat_map (λ s. s.pending) (drop l.shard-index l.shards) ≡ flat_map (λ s. s.pending) l.fn.shards
