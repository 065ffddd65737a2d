use Rattle.std.proofs.Common.{◌≡◌, ◌++◌, map, take}
use Rattle.tw_instance.proofs.peers.push_peers.Given as goal

abbrev pub invariant-loop-hop : goal.invariant-loop-hop
invariant-loop-hop l = l.neighbours.items ≡ l.initial.neighbours.items ++ map (λ h. h.peer) (take l.hop-index l.hops)
