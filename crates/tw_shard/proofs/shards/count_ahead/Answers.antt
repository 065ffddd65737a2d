use Rattle.std.proofs.Common.{◌+◌, ap, ◌∙◌, arith}
use Rattle.tw_shard.specs.Shards.{ahead_in}
use Rattle.tw_shard.proofs.CommittedEvents.{ahead_there, one_counted, own_there}
use Rattle.tw_shard.proofs.shards.count_ahead.Goals as goal

pub shard_for-requires : goal.shard_for-requires
shard_for-requires c = c.requires.some

pub ahead-requires : goal.ahead-requires
ahead-requires c =
    own_there c.args.case.now c.args.shards.now c.requires c.loop-router.router
    (let count = c.nodes-router-end.ensures.value in let net = ap (λ net. net.nodes) c.instance.ensures.value in let more = c.loop-router-test.true in omega arith)
    c.shard_for.result.now c.shard_for.ensures

pub loop-router-preserved : goal.loop-router-preserved
loop-router-preserved c =
    let case = c.args.case.now in
    let ss = c.args.shards.now in
    let r = c.loop-router.router in
    let fits = c.loop-router.invariant.fits in
    let most = c.ahead.type_inv in
    let here = c.ahead.ensures ∙ ahead_there case ss c.requires r
    (let count = c.nodes-router-end.ensures.value in let net = ap (λ net. net.nodes) c.instance.ensures.value in let more = c.loop-router-test.true in omega arith)
    c.shard_for.result.now c.shard_for.ensures in
    record {
      count = ap (λ n. c.loop-router.count + n) here ∙ one_counted (λ r. ahead_in case ss r) r c.loop-router.count c.loop-router.invariant.count;
      fits = omega arith;
    }
