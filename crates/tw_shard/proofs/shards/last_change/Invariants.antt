use Rattle.std.proofs.Common.{◌≡◌}
use Rattle.std.specs.List.{range_with_len}
use Rattle.tw_shard.specs.Shards.{greatest, history_in}
use Rattle.tw_shard.specs.Timeline.{last_change_at}
use Rattle.tw_shard.proofs.shards.last_change.Given as goal

abbrev pub invariant-loop-router : goal.invariant-loop-router
invariant-loop-router l = l.last ≡ greatest (λ r. last_change_at l.case.net r (history_in l.shards r)) (range_with_len 0 l.router)
