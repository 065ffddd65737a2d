use Rattle.std.proofs.Common.{◌≡◌, fold, length}
use Rattle.tw_instance.specs.Tables.{with_node}
use Rattle.tw_instance.proofs.tables.hash_of.Given as goal

abbrev pub invariant-loop-rest : goal.invariant-loop-rest
invariant-loop-rest l = fold with_node l.hash l.rest ≡ fold with_node 0 l.nodes

abbrev pub decreases-loop-rest : goal.decreases-loop-rest
decreases-loop-rest l = length l.rest
