use Rattle.std.proofs.Common.{◌≤◌, ◌*◌, length}
use Rattle.tw_model.specs.declared.limits.TheConstants.{MOST_LINKS}
use Rattle.tw_instance.specs.Hops.{peers_of}
use Rattle.tw_instance.specs.Sparse.{AreRowsOf}
use Rattle.tw_instance.proofs.peers.rows_of.Given as goal

abbrev pub invariant-loop-node : goal.invariant-loop-node
invariant-loop-node l = record {
  rows : AreRowsOf (peers_of l.instance) l.node l.starts.items l.neighbours.items;
  few : length l.neighbours.items ≤ MOST_LINKS * l.node;
}
