use Rattle.std.proofs.Common.{ℕ, ◌∷◌, [], ◌++◌, ap, ap₂, sym, ◌∙◌, arith}
use Rattle.std.proofs.lemmas.List.FromFn.{map-range_with_len_more}
use Rattle.tw_model.specs.Case.{simulation}
use Rattle.tw_model.specs.declared.outcome.RouterEnd.{RouterEnd}
use Rattle.tw_model.specs.State.{Router}
use Rattle.tw_model.specs.Summary.{end_of}
use Rattle.tw_shard.proofs.CommittedEvents.{own_there, router_there}
use Rattle.tw_shard.specs.Shards.{history_in}
use Rattle.tw_sim.specs.Simulation.{state}
use Rattle.tw_shard.proofs.shards.router_ends.Goals as goal

pub shard_for-requires : goal.shard_for-requires
shard_for-requires c = c.requires.some

pub router-requires : goal.router-requires
router-requires c =
    own_there c.args.case.now c.args.shards.now c.requires c.loop-router.router
    (let count = c.nodes-router-end.ensures.value in let net = ap (λ net. net.nodes) c.instance.ensures.value in let more = c.loop-router-test.true in omega arith)
    c.shard_for.result.now c.shard_for.ensures

pub loop-router-preserved : goal.loop-router-preserved
loop-router-preserved c =
    let case = c.args.case.now in
    let ss = c.args.shards.now in
    let r = c.loop-router.router in
    let end : ℕ → RouterEnd = λ r. end_of (state (simulation case) r (history_in ss r)) in
    let there = ap (λ (x : Router). end_of x.state) (c.router.ensures.known ∙ router_there case ss c.requires r
    (let count = c.nodes-router-end.ensures.value in let net = ap (λ net. net.nodes) c.instance.ensures.value in let more = c.loop-router-test.true in omega arith)
    c.shard_for.result.now c.shard_for.ensures) in
    c.in_ok-push.ensures.items ∙ (ap₂ (λ l y. l ++ y ∷ []) c.loop-router.invariant (c.end.ensures ∙ there) ∙ sym (map-range_with_len_more end 0 r r (omega arith)))
