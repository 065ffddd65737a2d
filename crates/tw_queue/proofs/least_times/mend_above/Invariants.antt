use Rattle.std.proofs.Common.{ℕ, ◌≡◌, ◌<◌, ◌≤◌, ◌/◌, drop, length}
use Rattle.tw_queue.specs.Least.{AreLesserBut}
use Rattle.tw_queue.proofs.least_times.mend_above.Given as goal

abbrev pub invariant-loop-node : goal.invariant-loop-node
invariant-loop-node l =
    (l.node ≤ l.leaf / 2) × (length l.nodes ≡ length l.fn.nodes) × ((n : ℕ) → l.leaf / 2 < n → drop n l.nodes ≡ drop n l.fn.nodes) × AreLesserBut l.node l.nodes

abbrev pub decreases-loop-node : goal.decreases-loop-node
decreases-loop-node l = l.node
