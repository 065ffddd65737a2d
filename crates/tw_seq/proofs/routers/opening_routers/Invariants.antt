use Rattle.std.proofs.Common.{◌≡◌, map}
use Rattle.std.specs.List.{range_with_len}
use Rattle.tw_model.specs.State.{opening}
use Rattle.tw_seq.proofs.routers.opening_routers.Given as goal

abbrev pub invariant-loop-node : goal.invariant-loop-node
invariant-loop-node l =
    l.routers.items ≡ map (λ r. record { net = l.instance; node = r; state = opening l.instance r }) (range_with_len 0 l.node)
