use Rattle.std.proofs.Common.{◌≡◌, ◌<◌, ℕ, []}
use Rattle.tw_shard.specs.Shard.{timeline}
use Rattle.tw_shard.specs.Shards.{shard_for}
use Rattle.tw_shard.proofs.shards.is_none_ahead.Given as goal

abbrev pub invariant-loop-router : goal.invariant-loop-router
invariant-loop-router l = (r : ℕ) → r < l.router → (timeline (shard_for l.shards r) r).ahead ≡ []
