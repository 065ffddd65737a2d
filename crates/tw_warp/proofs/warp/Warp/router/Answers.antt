use Rattle.std.proofs.Common.{ℕ, ◌<◌, List, length, ap, sym, ◌∙◌, subst}
use Rattle.tw_event.specs.declared.event.Event.{Event}
use Rattle.tw_shard.proofs.CommittedEvents.{own_there, router_there, told}
use Rattle.tw_shard.specs.Shard.{Shard}
use Rattle.tw_shard.specs.Shards.{HaveAll, history_in}
use Rattle.tw_warp.proofs.AllShards.{have_all, histories}
use Rattle.tw_warp.specs.Inside.{warp_of}
use Rattle.tw_warp.specs.Warp.{Warp, warp_core}
use Rattle.tw_warp.proofs.warp.Warp.router.Goals as goal

pub shard_for-requires : goal.shard_for-requires
shard_for-requires c = subst (λ (ss : List Shard). 0 < length ss) (sym c.deref.ensures.value) c.self.invariant.workers

pub router-requires : goal.router-requires
router-requires c =
    let w = warp_of c.self.inside in
    own_there w.case c.deref.result.now (subst (HaveAll w.case) (sym c.deref.ensures.value) (have_all w c.self.invariant)) c.args.router
    (subst (λ (v : Warp). c.args.router < v.case.net.nodes) (sym c.self.view_is) c.requires) c.shard_for.result.now c.shard_for.ensures

pub returns : goal.returns
returns c =
    let w = warp_of c.self.inside in
    c.router.ensures.known
    ∙ (router_there w.case c.deref.result.now (subst (HaveAll w.case) (sym c.deref.ensures.value) (have_all w c.self.invariant)) c.args.router
    (subst (λ (v : Warp). c.args.router < v.case.net.nodes) (sym c.self.view_is) c.requires) c.shard_for.result.now c.shard_for.ensures
    ∙ (ap (λ (ss : List Shard). told w.case c.args.router (history_in ss c.args.router)) c.deref.ensures.value
    ∙ (ap (λ (h : ℕ → List Event). told w.case c.args.router (h c.args.router)) (histories w c.self.invariant)
    ∙ ap (λ (v : Warp). told v.case c.args.router ((warp_core v).history c.args.router)) c.self.view_is)))
