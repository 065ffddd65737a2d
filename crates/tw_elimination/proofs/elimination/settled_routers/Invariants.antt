use Rattle.std.proofs.Common.{ℕ, ◌≡◌, true, false, get_or, length}
use Rattle.std.specs.List.{All}
use Rattle.tw_instance.specs.Tables.{row}
use Rattle.tw_model.specs.Net.{hops_of}
use Rattle.tw_elimination.proofs.elimination.settled_routers.Given as goal

abbrev pub invariant-loop-node : goal.invariant-loop-node
invariant-loop-node l = record {
  long : length l.settled.items ≡ l.node;
  same : (v : ℕ) → get_or l.settled.items v false ≡ true → All (λ h. length (row l.next h.peer) ≡ length (row l.left h.peer)) (hops_of l.case.net v);
}
