use Rattle.std.proofs.Common.{ap, ap₂, sym, ◌∙◌, max, arith}
use Rattle.tw_shard.proofs.CommittedEvents.{change_there, one_greater, own_there}
use Rattle.tw_shard.specs.Shards.{history_in}
use Rattle.tw_shard.specs.Timeline.{last_change_at}
use Rattle.tw_shard.proofs.shards.last_change.Goals as goal

pub shard_for-requires : goal.shard_for-requires
shard_for-requires c = c.requires.some

pub last_change-requires : goal.last_change-requires
last_change-requires c =
    own_there c.args.case.now c.args.shards.now c.requires c.loop-router.router
    (let count = c.nodes-router-end.ensures.value in let net = ap (λ net. net.nodes) c.instance.ensures.value in let more = c.loop-router-test.true in omega arith)
    c.shard_for.result.now c.shard_for.ensures

pub loop-router-preserved : goal.loop-router-preserved
loop-router-preserved c =
    let case = c.args.case.now in
    let ss = c.args.shards.now in
    let r = c.loop-router.router in
    let here = c.last_change.ensures ∙ change_there case ss c.requires r
    (let count = c.nodes-router-end.ensures.value in let net = ap (λ net. net.nodes) c.instance.ensures.value in let more = c.loop-router-test.true in omega arith)
    c.shard_for.result.now c.shard_for.ensures in
    c.max-last.ensures ∙ (ap₂ max c.loop-router.invariant here ∙ sym (one_greater (λ r. last_change_at case.net r (history_in ss r)) r))
