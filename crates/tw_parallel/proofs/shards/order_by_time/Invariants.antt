use Rattle.std.proofs.Common.{◌≡◌}
use Rattle.tw_parallel.proofs.shards.order_by_time.Given as goal

abbrev pub invariant-loop-place : goal.invariant-loop-place
invariant-loop-place l = l.shards ≡ l.fn.shards
