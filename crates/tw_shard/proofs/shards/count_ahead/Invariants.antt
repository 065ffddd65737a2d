use Rattle.std.proofs.Common.{◌≡◌, ◌*◌, ◌≤◌}
use Rattle.std.specs.List.{range_with_len}
use Rattle.tw_core.specs.Parts.{total}
use Rattle.tw_shard.specs.Shards.{ahead_in}
use Rattle.tw_shard.proofs.shards.count_ahead.Given as goal

abbrev pub invariant-loop-router : goal.invariant-loop-router
invariant-loop-router l = record {
  count : l.count ≡ total (λ r. ahead_in l.case l.shards r) (range_with_len 0 l.router);
  fits : l.count ≤ l.router * 18446744073709551616;
}
