use Rattle.std.proofs.Common.{◌≡◌, [], length, rules, ap, sym, ◌∙◌, subst, arith, vec_len}
use Rattle.std.proofs.lemmas.List.{nil_from_length}
use Rattle.std.specs.Vec.Iter.{into_iter_items}
use Rattle.tw_parallel.proofs.Coming.{AreClosed, all_closed, none_closed, one_closed}
use Rattle.tw_parallel.proofs.vacancy.shards_of.Goals as goal

pub loop-worker-init : goal.loop-worker-init
loop-worker-init c =
    let workers = c.into_iter-worker-iterator.ensures.into_iter_gives in
    let many : length c.args.vacant.items ≡ vec_len c.args.vacant = search rules in
    let shards : length c.args.shards.items ≡ vec_len c.args.shards = search rules in
    let none = ap length c.requires.empty in
    record {
      closed = none_closed c.args.vacant.items (into_iter_items c.into_iter-worker-iterator.result) c.args.shards.items workers.0 c.requires.empty c.requires.whole;
      room = omega (arith, shards, none, many, workers.1, c.requires.room);
      rest = ap length workers.0 ∙ (many ∙ sym workers.1);
    }

pub into_shard-requires : goal.into_shard-requires
into_shard-requires c =
    (subst (λ vs. AreClosed c.args.vacant.items vs c.loop-worker.shards.items) c.in-Some.ensures.steps.0 c.loop-worker.invariant.closed).whole.0

pub loop-worker-preserved : goal.loop-worker-preserved
loop-worker-preserved c =
    let was = c.loop-worker.invariant in
    let step = c.in-Some.ensures.steps in
    let pushed = c.push_reserved.ensures in
    let all = c.args.vacant.items in
    record {
      closed = one_closed all (into_iter_items c.next.new.self) c.in-Some.worker c.loop-worker.shards.items c.push_reserved.new.self.items c.into_shard.result
          (subst (λ vs. AreClosed all vs c.loop-worker.shards.items) step.0 was.closed) c.into_shard.ensures.at pushed.items;
      room = omega (arith, was.room, step.1, pushed.len, pushed.capacity);
      rest = (let long = ap length step.0 in omega (arith, was.rest, step.1, long));
    }

pub returns-clause-count : goal.returns-clause-count
returns-clause-count c =
    let was = c.loop-worker.invariant in
    let none = nil_from_length (into_iter_items c.loop-worker.worker-iterator) (was.rest ∙ c.in-None.ensures.steps.0) in
    all_closed c.args.vacant.items c.loop-worker.shards.items (subst (λ vs. AreClosed c.args.vacant.items vs c.loop-worker.shards.items) none was.closed)

pub returns-clause-each : goal.returns-clause-each
returns-clause-each c = c.loop-worker.invariant.closed.each
