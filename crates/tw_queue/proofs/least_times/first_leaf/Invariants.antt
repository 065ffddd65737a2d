use Rattle.std.proofs.Common.{◌-◌, ℕ, ◌≡◌, ◌<◌, ◌*◌, ◌^◌}
use Rattle.tw_queue.specs.Least.{IsFirstOfLevel}
use Rattle.tw_queue.proofs.least_times.first_leaf.Given as goal

abbrev pub invariant-loop-level : goal.invariant-loop-level
invariant-loop-level l = (0 < l.level) × ((r : ℕ) × (l.leaves ≡ l.level * 2 ^ r)) × IsFirstOfLevel l.nodes l.level l.node

abbrev pub decreases-loop-level : goal.decreases-loop-level
decreases-loop-level l = l.leaves - l.level
