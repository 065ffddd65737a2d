use Rattle.std.proofs.Common.{◌≡◌, ◌<◌, ℕ, [], get_or, length}
use Rattle.tw_instance.specs.Hops.{peers_of}
use Rattle.tw_instance.specs.Orders.{StandAsIn}
use Rattle.tw_instance.proofs.peers.orders_of.Given as goal

abbrev pub invariant-loop-node : goal.invariant-loop-node
invariant-loop-node l = record {
  long : length l.orders.items ≡ l.node;
  right : (v : ℕ) → v < l.node → StandAsIn (peers_of l.instance v) (get_or l.orders.items v []);
}
