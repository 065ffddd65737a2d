use Rattle.std.proofs.Common.{◌≡◌, ◌∷◌, length, rules, ap, sym, ◌∙◌, subst, arith, vec_len}
use Rattle.std.proofs.lemmas.List.{nil_from_length}
use Rattle.std.specs.Vec.Iter.{into_iter_items}
use Rattle.tw_parallel.proofs.Crews.{AreMade, all_made, none_made, one_made}
use Rattle.tw_table.specs.Shares.{shares_of}
use Rattle.tw_parallel.proofs.crew.workers_of.Goals as goal

pub loop-shard-init : goal.loop-shard-init
loop-shard-init c =
    let shards = c.into_iter-shard-iterator.ensures.into_iter_gives in
    let hands = c.into_iter-hands.ensures in
    let all = shares_of c.args.shards.items c.args.hands.items in
    let none : length c.args.workers.items ≡ vec_len c.args.workers = search rules in
    let empty = ap length c.requires.empty in
    let many : length c.args.shards.items ≡ vec_len c.args.shards = search rules in
    let more : length c.args.hands.items ≡ vec_len c.args.hands = search rules in
    record {
      made = subst (λ hs. AreMade c.args.stop all (into_iter_items c.into_iter-shard-iterator.result) hs c.args.workers.items) (sym hands.rest)
          (subst (λ ss. AreMade c.args.stop all ss c.args.hands.items c.args.workers.items) (sym shards.0)
          (none_made c.args.stop c.args.shards.items c.args.hands.items c.args.workers.items c.requires.empty c.requires.hands c.requires.work));
      room = omega (arith, none, empty, many, shards.1, c.requires.room);
      rest = ap length shards.0 ∙ (many ∙ sym shards.1);
      hands = ap length hands.rest ∙ (more ∙ sym hands.len);
    }

pub new-requires-clause-work : goal.new-requires-clause-work
new-requires-clause-work c =
    let was = c.loop-shard.invariant.made in
    let all = shares_of c.args.shards.items c.args.hands.items in
    let now : AreMade c.args.stop all (c.in-Some.shard ∷ into_iter_items c.next.new.self) (c.in-Some-next.hand ∷ into_iter_items c.next-in-loop-shard.new.self) c.loop-shard.workers.items
    = subst (λ hs. AreMade c.args.stop all (c.in-Some.shard ∷ into_iter_items c.next.new.self) hs c.loop-shard.workers.items) c.in-Some-next.ensures.cases.0
    (subst (λ ss. AreMade c.args.stop all ss (into_iter_items c.loop-shard.hands) c.loop-shard.workers.items) c.in-Some.ensures.steps.0 was) in
    now.work.0

pub loop-shard-preserved : goal.loop-shard-preserved
loop-shard-preserved c =
    let was = c.loop-shard.invariant in
    let shard = c.in-Some.ensures.steps in
    let hand = c.in-Some-next.ensures.cases in
    let pushed = c.push_reserved.ensures in
    let all = shares_of c.args.shards.items c.args.hands.items in
    let now : AreMade c.args.stop all (c.in-Some.shard ∷ into_iter_items c.next.new.self) (c.in-Some-next.hand ∷ into_iter_items c.next-in-loop-shard.new.self) c.loop-shard.workers.items
    = subst (λ hs. AreMade c.args.stop all (c.in-Some.shard ∷ into_iter_items c.next.new.self) hs c.loop-shard.workers.items) hand.0
    (subst (λ ss. AreMade c.args.stop all ss (into_iter_items c.loop-shard.hands) c.loop-shard.workers.items) shard.0 was.made) in
    record {
      made = one_made c.args.stop all c.in-Some.shard (into_iter_items c.next.new.self) c.in-Some-next.hand (into_iter_items c.next-in-loop-shard.new.self)
          c.loop-shard.workers.items c.push_reserved.new.self.items c.new.result now c.new.ensures.share c.new.ensures.stop pushed.items;
      room = omega (arith, was.room, shard.1, pushed.len, pushed.capacity);
      rest = (let long = ap length shard.0 in omega (arith, was.rest, shard.1, long));
      hands = (let long = ap length hand.0 in omega (arith, was.hands, hand.1, long));
    }

pub returns-clause-shares : goal.returns-clause-shares
returns-clause-shares c =
    let was = c.loop-shard.invariant in
    let all = shares_of c.args.shards.items c.args.hands.items in
    let none = nil_from_length (into_iter_items c.loop-shard.shard-iterator) (was.rest ∙ c.in-None.ensures.steps.0) in
    all_made c.args.stop all (into_iter_items c.loop-shard.hands) c.loop-shard.workers.items
    (subst (λ ss. AreMade c.args.stop all ss (into_iter_items c.loop-shard.hands) c.loop-shard.workers.items) none was.made)

pub returns-clause-stops : goal.returns-clause-stops
returns-clause-stops c = c.loop-shard.invariant.made.stops
