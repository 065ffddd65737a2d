use Rattle.std.proofs.Common.{◌≡◌, ◌==◌, ◌++◌, ◌∷◌, [], if◌then◌else◌, filter, slice_index_or, arith, ap, sym, ◌∙◌}
use Rattle.std.specs.List.{range_with_len}
use Rattle.std.proofs.lemmas.List.{get_or_default}
use Rattle.tw_shard.specs.Roster.{has}
use Rattle.tw_shard.proofs.OwnRouters.{fresh, next_own}
use Rattle.tw_shard.proofs.roster.Roster.owned.Goals as goal

pub loop-router-preserved : goal.loop-router-preserved
loop-router-preserved c = record {
  count = c.add_where.ensures.count ∙ c.loop-router.invariant.count;
  routers =
      let n = c.loop-router.router in
      λ none.
      c.in_ok-add_where.ensures.routers
      ∙ (λ i. if (get_or_default c.args.owners.now n 0 none (let all = c.requires in let more = c.loop-router-test.true in omega arith)) i == c.args.worker then c.loop-router.invariant.routers none i ++ n ∷ [] else c.loop-router.invariant.routers none i)
      ∙ sym (next_own (λ r. slice_index_or c.args.owners.now r none == c.args.worker) n);
}

pub add_where-requires-clause-new : goal.add_where-requires-clause-new
add_where-requires-clause-new c = ap (λ rs. has rs c.loop-router.router) (c.loop-router.invariant.routers 0) ∙ fresh (λ r. slice_index_or c.args.owners.now r 0 == c.args.worker) c.loop-router.router

pub returns-clause-routers : goal.returns-clause-routers
returns-clause-routers c = λ none.
    let end : c.loop-router.router ≡ c.args.count = (let last = c.loop-router-test.false in let most = c.loop-router.auto.router-end in omega arith) in
    c.loop-router.invariant.routers none ∙ ap (λ n. filter (λ r. slice_index_or c.args.owners.now r none == c.args.worker) (range_with_len 0 n)) end
