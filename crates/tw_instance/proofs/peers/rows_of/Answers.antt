use Rattle.std.proofs.Common.{[], ◌+◌, ◌∷◌, ◌++◌, ap, arith, length, map, subst, sym, ◌∙◌}
use Rattle.std.proofs.lemmas.List.{length-append, length-map}
use Rattle.tw_instance.specs.Hops.{peers_of}
use Rattle.tw_instance.specs.Sparse.{AreRowsOf}
use Rattle.tw_instance.proofs.Sparse.{cut_push}
use Rattle.tw_instance.proofs.peers.rows_of.Goals as goal

pub loop-node-preserved : goal.loop-node-preserved
loop-node-preserved c =
    let F = peers_of c.args.instance.now in
    let k = c.loop-node.node in
    let before = c.loop-node.neighbours.items in
    let starts = c.loop-node.starts.items in
    let n = c.len.result in
    let hops = c.hops.result.now in
    let row = map (λ h. h.peer) hops in
    let after = c.push_peers.new.neighbours.items in
    let long = c.len.ensures ∙ (c.push_peers.new.neighbours.ok.0 ∙ ap length c.in_ok-push_peers.ensures) in
    let more = cut_push F k n starts before row c.loop-node.invariant.rows (ap (map (λ h. h.peer)) c.hops.ensures.value) long in
    record {
      rows = subst (λ ss. AreRowsOf F (k + 1) ss after) (sym c.in_ok-push-2.ensures.items) (subst (AreRowsOf F (k + 1) (starts ++ n ∷ [])) (sym c.in_ok-push_peers.ensures) more);
      few =
          let sum = ap length c.in_ok-push_peers.ensures ∙ length-append before row in
          let m = length-map hops (λ h. h.peer) in
          let few = c.hops.ensures.few in
          let so = c.loop-node.invariant.few in
          omega arith;
    }
