use Rattle.std.proofs.Common.{◌≡◌, ℕ, ◌<◌, ◌≤◌, get_or, length}
use Rattle.std.specs.Prelude.{vec_capacity}
use Rattle.tw_shard.specs.Shard.{IsOpeningShard, no_shard}
use Rattle.tw_shard.proofs.shards.open_all.Given as goal

abbrev pub invariant-loop-worker : goal.invariant-loop-worker
invariant-loop-worker l = record {
  count : length l.shards.items ≡ l.worker;
  room : l.workers ≤ vec_capacity l.shards;
  each : (k : ℕ) → k < l.worker → IsOpeningShard l.case k l.workers l.retains l.cancel (get_or l.shards.items k no_shard);
}
