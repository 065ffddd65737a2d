use Rattle.std.proofs.Common.{◌==◌, ap, arith, length, ◌∙◌, ◌<◌}
use Rattle.std.specs.List.{position}
use Rattle.std.proofs.lemmas.List.{length-map}
use Rattle.tw_model.specs.Net.{hops_of}
use Rattle.tw_instance.specs.Hops.{peers_of}
use Rattle.tw_instance.specs.Orders.{StandsAt}
use Rattle.tw_instance.proofs.Indexed.{at_slot, is_slot, slot_map}
use Rattle.tw_instance.proofs.peers.Peers.slot_aside.Goals as goal

pub returns-in-Some : goal.returns-in-Some
returns-in-Some c net h =
    let v = c.args.index in
    let w = c.args.peer in
    let k = c.in-Some.slot in
    let stands : StandsAt (peers_of net v) w k = c.in-Some.ensures net h in
    at_slot net v w k (let n = length-map (hops_of net v) (λ h. h.peer) in let l = stands.0 in omega arith) stands.1

pub returns : goal.returns
returns c net h =
    let v = c.args.index in
    let w = c.args.peer in
    let row = c.row.ensures ∙ h.rows v in
    is_slot net v w c.first_equal.result (c.first_equal.ensures ∙ (ap (position (λ o. o == w)) row ∙ slot_map w (hops_of net v)))
