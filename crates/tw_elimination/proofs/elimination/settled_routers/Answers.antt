use Rattle.std.proofs.Common.{◌≡◌, length, subst}
use Rattle.std.proofs.lemmas.Bool.{ltb-true}
use Rattle.tw_instance.specs.Tables.{row}
use Rattle.tw_model.specs.Net.{hops_of}
use Rattle.tw_model.specs.State.{hop, slot}
use Rattle.tw_model.proofs.Nets.{hop_in_hops, hop_slot}
use Rattle.tw_sim.proofs.Members.{in_from_all}
use Rattle.tw_elimination.proofs.elimination.settled_routers.Goals as goal

pub returns : goal.returns
returns c v on w there =
    let net = c.args.case.now.net in
    let h = hop net v (slot net v w) in
    let same = in_from_all (λ h. length (row c.args.next.now h.peer) ≡ length (row c.args.left.now h.peer)) (hops_of net v) (c.loop-node.invariant.same v on) h
    (hop_in_hops net v (slot net v w) (ltb-true (slot net v w) (length (hops_of net v)) there)) in
    subst (λ z. length (row c.args.next.now z) ≡ length (row c.args.left.now z)) (hop_slot net v w there) same
