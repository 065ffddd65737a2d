use Rattle.std.proofs.Common.{◌≡◌, ◌<◌, ℕ, [], get_or, length}
use Rattle.tw_instance.specs.Guesses.{AreGuesses}
use Rattle.tw_instance.specs.Hops.{peers_of}
use Rattle.tw_instance.proofs.peers.guesses_of.Given as goal

abbrev pub invariant-loop-node : goal.invariant-loop-node
invariant-loop-node l = record {
  long : length l.guesses.items ≡ l.node;
  right : (v : ℕ) → v < l.node → AreGuesses (peers_of l.instance v) (get_or l.guesses.items v []);
}
