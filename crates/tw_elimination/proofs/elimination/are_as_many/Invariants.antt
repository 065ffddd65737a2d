use Rattle.std.proofs.Common.{◌≡◌, length, take}
use Rattle.std.specs.List.{All}
use Rattle.tw_instance.specs.Tables.{row}
use Rattle.tw_model.specs.Net.{hops_of}
use Rattle.tw_elimination.proofs.elimination.are_as_many.Given as goal

abbrev pub invariant-loop-hop : goal.invariant-loop-hop
invariant-loop-hop l = All (λ h. length (row l.next h.peer) ≡ length (row l.left h.peer)) (take l.hop-index (hops_of l.instance l.node))
