use Rattle.std.proofs.Common.{◌==◌, ◌++◌, ◌∷◌, [], if◌then◌else◌, ap, sym, ◌∙◌}
use Rattle.tw_shard.specs.Roster.{has}
use Rattle.tw_sim.specs.Owners.{owner}
use Rattle.tw_shard.proofs.OwnRouters.{fresh, next_own}
use Rattle.tw_shard.proofs.roster.Roster.in_turn.Goals as goal

pub loop-router-preserved : goal.loop-router-preserved
loop-router-preserved c = record {
  count = c.add_where.ensures.count ∙ c.loop-router.invariant.count;
  routers =
      let n = c.loop-router.router in
      c.in_ok-add_where.ensures.routers
      ∙ (λ i. if c.owner.ensures.value i == c.args.worker then c.loop-router.invariant.routers i ++ n ∷ [] else c.loop-router.invariant.routers i)
      ∙ sym (next_own (λ r. owner c.args.workers r == c.args.worker) n);
}

pub add_where-requires-clause-new : goal.add_where-requires-clause-new
add_where-requires-clause-new c = ap (λ rs. has rs c.loop-router.router) c.loop-router.invariant.routers ∙ fresh (λ r. owner c.args.workers r == c.args.worker) c.loop-router.router
