use Rattle.std.proofs.Common.{◌<◌, ap, ◌∙◌, arith}
use Rattle.tw_shard.proofs.CommittedEvents.{oldest_there, one_gathered, own_there}
use Rattle.tw_shard.specs.Shard.{Shard}
use Rattle.tw_shard.specs.Shards.{oldest_in}
use Rattle.tw_shard.proofs.shards.add_by_router.Goals as goal

pub shard_for-requires : goal.shard_for-requires
shard_for-requires c = c.requires.all.some

pub add_committed-requires : goal.add_committed-requires
add_committed-requires c =
    let known : c.loop-router.router < c.args.case.now.net.nodes = (let count = c.nodes-router-end.ensures.value in let net = ap (λ net. net.nodes) c.instance.ensures.value in let more = c.loop-router-test.true in omega arith) in
    record {
      own = own_there c.args.case.now c.args.shards.now c.requires.all c.loop-router.router known c.shard_for.result.now c.shard_for.ensures;
      retains = ap (λ (s : Shard). s.terms.retains) c.shard_for.ensures ∙ c.requires.retained.retains c.loop-router.router known;
    }

pub loop-router-preserved : goal.loop-router-preserved
loop-router-preserved c =
    let case = c.args.case.now in
    let ss = c.args.shards.now in
    let r = c.loop-router.router in
    one_gathered (λ r. oldest_in case ss r) r c.loop-router.events.items c.add_committed.new.events.items _ c.loop-router.invariant c.in_ok-add_committed.ensures
    (oldest_there case ss c.requires.all r
    (let count = c.nodes-router-end.ensures.value in let net = ap (λ net. net.nodes) c.instance.ensures.value in let more = c.loop-router-test.true in omega arith)
    c.shard_for.result.now c.shard_for.ensures)
