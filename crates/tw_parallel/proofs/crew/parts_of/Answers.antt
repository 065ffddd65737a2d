use Rattle.std.proofs.Common.{◌≡◌, length, rules, ap, sym, ◌∙◌, subst, arith, vec_len}
use Rattle.std.proofs.lemmas.List.{nil_from_length}
use Rattle.std.specs.Vec.Iter.{into_iter_items}
use Rattle.tw_parallel.proofs.Crews.{AreApart, all_apart, none_apart, one_apart}
use Rattle.tw_parallel.proofs.crew.parts_of.Goals as goal

pub loop-worker-init : goal.loop-worker-init
loop-worker-init c =
    let workers = c.into_iter-worker-iterator.ensures.into_iter_gives in
    let many : length c.args.workers.items ≡ vec_len c.args.workers = search rules in
    let shards : length c.args.shards.items ≡ vec_len c.args.shards = search rules in
    let hands : length c.args.hands.items ≡ vec_len c.args.hands = search rules in
    let no_shards = ap length c.requires.shards.0 in
    let no_hands = ap length c.requires.hands.0 in
    record {
      apart = subst (λ ws. AreApart c.args.workers.items ws c.args.shards.items c.args.hands.items) (sym workers.0)
          (none_apart c.args.workers.items c.args.shards.items c.args.hands.items c.requires.shards.0 c.requires.hands.0);
      shards = omega (arith, shards, no_shards, many, workers.1, c.requires.shards.1);
      hands = omega (arith, hands, no_hands, many, workers.1, c.requires.hands.1);
      rest = ap length workers.0 ∙ (many ∙ sym workers.1);
    }

pub loop-worker-preserved : goal.loop-worker-preserved
loop-worker-preserved c =
    let was = c.loop-worker.invariant in
    let step = c.in-Some.ensures.steps in
    let shard = c.push_reserved.ensures in
    let hand = c.push_reserved-in-loop-worker.ensures in
    let all = c.args.workers.items in
    record {
      apart = one_apart all c.in-Some.worker (into_iter_items c.next.new.self) c.loop-worker.shards.items c.push_reserved.new.self.items
          c.loop-worker.hands.items c.push_reserved-in-loop-worker.new.self.items c.into_parts-shard.result.0 c.into_parts-shard.result.1
          (subst (λ ws. AreApart all ws c.loop-worker.shards.items c.loop-worker.hands.items) step.0 was.apart)
          c.into_parts-shard.ensures shard.items hand.items;
      shards = omega (arith, was.shards, step.1, shard.len, shard.capacity);
      hands = omega (arith, was.hands, step.1, hand.len, hand.capacity);
      rest = (let long = ap length step.0 in omega (arith, was.rest, step.1, long));
    }

pub returns-clause-count : goal.returns-clause-count
returns-clause-count c = c.loop-worker.invariant.apart.count

pub returns-clause-shares : goal.returns-clause-shares
returns-clause-shares c =
    let was = c.loop-worker.invariant in
    let all = c.args.workers.items in
    let none = nil_from_length (into_iter_items c.loop-worker.worker-iterator) (was.rest ∙ c.in-None.ensures.steps.0) in
    all_apart all c.loop-worker.shards.items c.loop-worker.hands.items
    (subst (λ ws. AreApart all ws c.loop-worker.shards.items c.loop-worker.hands.items) none was.apart)
