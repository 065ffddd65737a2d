use Rattle.std.proofs.Common.{map}
use Rattle.tw_instance.specs.Orders.{StandAsIn}
use Rattle.tw_instance.proofs.peers.order_of.Given as goal

abbrev pub invariant-loop-slot : goal.invariant-loop-slot
invariant-loop-slot l = StandAsIn (map (λ h. h.peer) l.hops) l.order
