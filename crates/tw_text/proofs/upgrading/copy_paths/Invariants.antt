use Rattle.std.proofs.Common.{◌≡◌, ◌++◌, drop}
use Rattle.tw_text.proofs.upgrading.copy_paths.Given as goal

abbrev pub invariant-loop-path : goal.invariant-loop-path
invariant-loop-path l = l.copies.items ++ drop l.path-index l.paths ≡ l.paths
