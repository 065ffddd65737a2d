use Rattle.std.proofs.Common.{ap, subst, ◌∙◌}
use Rattle.std.specs.List.{slice_get}
use Rattle.tw_instance.specs.Index.{IsIndex}
use Rattle.tw_instance.specs.Instance.{net_of}
use Rattle.tw_instance.specs.Peers.{HasPeers}
use Rattle.tw_instance.proofs.Indexed.{at_first}
use Rattle.tw_instance.proofs.instance.Instance.slot.Goals as goal

pub returns-in-Some : goal.returns-in-Some
returns-in-Some c =
    let a = c.self.inside in
    let index = at_first (IsIndex (net_of a)) a.index.items c.in-Some.index.now c.self.invariant.index (c.in-Some.ensures.value ∙ ap (λ xs. slice_get xs 0) c.deref.ensures.value) in
    c.slot.ensures c.args.self.now (subst (λ n. HasPeers n c.in-Some.index.now.peers) c.self.view_is index.peers)
