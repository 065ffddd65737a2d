use Rattle.std.proofs.Common.{◌≡◌, drop}
use Rattle.tw_elimination.proofs.Bounds.{one_each_of}
use Rattle.tw_elimination.proofs.elimination.has_one_each.Given as goal

abbrev pub invariant-loop-paths : goal.invariant-loop-paths
invariant-loop-paths l = one_each_of (drop l.paths-index l.left) ≡ one_each_of l.left
