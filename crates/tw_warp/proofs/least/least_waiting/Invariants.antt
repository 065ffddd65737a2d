use Rattle.std.proofs.Common.{◌≡◌, ◌++◌, drop}
use Rattle.tw_model.specs.Case.{Case, simulation}
use Rattle.tw_warp.specs.Bounds.{least_of_all}
use Rattle.tw_warp.proofs.least.least_waiting.Given as goal

abbrev pub invariant-loop-shard : goal.invariant-loop-shard
invariant-loop-shard l = (case : Case)
    → least_of_all (simulation case) (λ s. s.pending ++ s.kept ++ s.held) (drop l.shard-index l.shards) l.least ≡ least_of_all (simulation case) (λ s. s.pending ++ s.kept ++ s.held) l.fn.shards l.fn.top
