use Rattle.std.proofs.Common.{◌≡◌, ◌++◌, drop, map, take}
use Rattle.tw_warp.specs.Bounds.{raised}
use Rattle.tw_warp.proofs.least.raise_bounds.Given as goal

-- what has risen, and what is still to rise
abbrev pub invariant-loop-shard : goal.invariant-loop-shard
invariant-loop-shard l = take l.shard-index l.shard-items ++ map (raised l.bound) (drop l.shard-index l.shard-items) ≡ map (raised l.fn.bound) l.fn.shards
