use Rattle.std.proofs.Common.{ℕ, ◌≡◌, ◌<◌, length}
use Rattle.tw_instance.specs.Tables.{row}
use Rattle.tw_elimination.proofs.elimination.has_fewer.Given as goal

abbrev pub invariant-loop-node : goal.invariant-loop-node
invariant-loop-node l = (v : ℕ) → v < l.node → length (row l.next v) ≡ length (row l.left v)
