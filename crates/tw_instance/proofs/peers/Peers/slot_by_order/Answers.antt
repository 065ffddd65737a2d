use Rattle.std.proofs.Common.{[], ap, get_or, length, subst, sym, ◌∙◌, ◌<◌}
use Rattle.std.proofs.lemmas.Bool.{ltb-true}
use Rattle.tw_instance.specs.Hops.{peers_of}
use Rattle.tw_instance.specs.Orders.{StandAsIn}
use Rattle.tw_instance.proofs.peers.Peers.slot_by_order.Goals as goal

pub returns : goal.returns
returns c net h =
    let at = ap (λ orders. get_or orders c.args.index []) (sym c.deref.ensures.value) ∙ sym (c.in_ok-get.ensures.lookup.3.1 []) in
    let low = ltb-true c.args.index (length c.deref.result.now) (sym (c.in_ok-get.ensures.lookup.0)) in
    let there = subst (λ orders. c.args.index < length orders) c.deref.ensures.value low in
    c.slot_in.ensures (peers_of net c.args.index) (subst (StandAsIn (peers_of net c.args.index)) at (h.orders c.args.index there))
