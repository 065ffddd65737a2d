use Rattle.std.proofs.Common.{◌≡◌, ◌+◌, ◌<◌, ◌≤◌, ◌∙◌, List, ap, arith, get_or, length, subst, sym, take}
use Rattle.std.specs.List.{All}
use Rattle.std.proofs.lemmas.List.{take_all, take_more}
use Rattle.tw_instance.specs.Tables.{row}
use Rattle.tw_model.specs.declared.net.Hop.{Hop}
use Rattle.tw_model.specs.Net.{hops_of}
use Rattle.tw_elimination.proofs.Marking.{row_at}
use Rattle.tw_elimination.proofs.Ring.{all_more}
use Rattle.tw_elimination.proofs.elimination.are_as_many.Goals as goal

pub loop-hop-preserved : goal.loop-hop-preserved
loop-hop-preserved c =
    let i = c.loop-hop.hop-index in
    let d : Hop = record { peer = 0; delay = 0 } in
    let hops = hops_of c.args.instance.now c.args.node in
    let given = c.hops-hop-items.result.now in
    let are : given ≡ hops = c.hops-hop-items.ensures.value in
    let w = (get_or given i d).peer in
    let good = (c.hops-hop-items.ensures.good i d c.loop-hop-test.true).peer in
    let next_long = c.requires.next in
    let left_long = c.requires.left in
    let one = ap length (row_at c.args.next.now w c.index-next-peer.result (omega arith) c.index-next-peer.is ∙ sym c.as_slice.ensures.value) in
    let two = ap length (row_at c.args.left.now w c.index-left-peer.result (omega arith) c.index-left-peer.is ∙ sym c.as_slice-in-loop-hop.ensures.value) in
    let alike : length (row c.args.next.now w) ≡ length (row c.args.left.now w) = one ∙ (c.if-as_slice.false ∙ sym two) in
    all_more (λ h. length (row c.args.next.now h.peer) ≡ length (row c.args.left.now h.peer)) (take i hops) (take (i + 1) hops) (get_or hops i d)
    (take_more hops i d (subst (λ hs. i < length hs) are c.loop-hop-test.true)) c.loop-hop.invariant
    (subst (λ (hs : List Hop). length (row c.args.next.now (get_or hs i d).peer) ≡ length (row c.args.left.now (get_or hs i d).peer)) are alike)

pub returns : goal.returns
returns c _ =
    let hops = hops_of c.args.instance.now c.args.node in
    let over : length hops ≤ c.loop-hop.hop-index = subst (λ hs. length hs ≤ c.loop-hop.hop-index) c.hops-hop-items.ensures.value c.loop-hop-test.false in
    subst (All (λ h. length (row c.args.next.now h.peer) ≡ length (row c.args.left.now h.peer))) (take_all c.loop-hop.hop-index hops over) c.loop-hop.invariant
