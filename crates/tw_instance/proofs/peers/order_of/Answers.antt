use Rattle.tw_instance.proofs.Orders.{no_order}
use Rattle.tw_instance.proofs.peers.order_of.Goals as goal

pub loop-slot-init : goal.loop-slot-init
loop-slot-init c = no_order _ 64
