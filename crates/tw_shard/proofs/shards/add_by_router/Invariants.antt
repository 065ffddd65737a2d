use Rattle.std.proofs.Common.{◌≡◌}
use Rattle.std.specs.List.{flat_map, range_with_len}
use Rattle.tw_shard.specs.Shards.{oldest_in}
use Rattle.tw_shard.proofs.shards.add_by_router.Given as goal

abbrev pub invariant-loop-router : goal.invariant-loop-router
invariant-loop-router l = l.events.items ≡ flat_map (λ r. oldest_in l.case l.shards r) (range_with_len 0 l.router)
