use Rattle.std.proofs.Common.{◌≡◌, [], map}
use Rattle.std.specs.List.{range_with_len}
use Rattle.tw_seq.specs.Run.{router_after}
use Rattle.tw_elimination.proofs.standing.opening_routers.Given as goal

abbrev pub invariant-loop-node : goal.invariant-loop-node
invariant-loop-node l = l.routers.items ≡ map (router_after l.case []) (range_with_len 0 l.node)
