use Rattle.std.proofs.Common.{◌<◌, List, ap, sym, ◌∙◌, subst}
use Rattle.tw_core.specs.Run.{IsSeq}
use Rattle.tw_model.specs.Case.{simulation}
use Rattle.tw_parallel.proofs.Owners.{have_all, same_router, seq_of}
use Rattle.tw_parallel.specs.Inside.{sim_of}
use Rattle.tw_parallel.specs.Sim.{Sim, machine}
use Rattle.tw_shard.proofs.CommittedEvents.{own_there, router_there, told}
use Rattle.tw_shard.specs.Shard.{Shard}
use Rattle.tw_shard.specs.Shards.{HaveAll, history_in}
use Rattle.tw_parallel.proofs.sim.Sim.router.Goals as goal

pub shard_for-requires : goal.shard_for-requires
shard_for-requires c = let a = c.self.inside in (subst (HaveAll (sim_of a).case) (sym c.deref.ensures.value) (have_all a c.self.invariant)).some

pub router-requires : goal.router-requires
router-requires c =
    let a = c.self.inside in
    own_there (sim_of a).case c.deref.result.now (subst (HaveAll (sim_of a).case) (sym c.deref.ensures.value) (have_all a c.self.invariant)) c.args.router
    (subst (λ (s : Sim). c.args.router < s.case.net.nodes) (sym c.self.view_is) c.requires) c.shard_for.result.now c.shard_for.ensures

pub returns-clause-value : goal.returns-clause-value
returns-clause-value c =
    let a = c.self.inside in
    let r = c.args.router in
    c.router.ensures.known
    ∙ (router_there (sim_of a).case c.deref.result.now (subst (HaveAll (sim_of a).case) (sym c.deref.ensures.value) (have_all a c.self.invariant)) r
    (subst (λ (s : Sim). r < s.case.net.nodes) (sym c.self.view_is) c.requires) c.shard_for.result.now c.shard_for.ensures
    ∙ (ap (λ (ss : List Shard). told (sim_of a).case r (history_in ss r)) c.deref.ensures.value
    ∙ (same_router a c.self.invariant r ∙ ap (λ (s : Sim). told s.case r ((machine s).history r)) c.self.view_is)))

pub returns-clause-seq : goal.returns-clause-seq
returns-clause-seq c = subst (λ (s : Sim). IsSeq (simulation s.case) (machine s)) c.self.view_is (seq_of _ c.self.invariant.sim)
