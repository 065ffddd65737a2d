use Rattle.std.proofs.Common.{◌∷◌, [], get_or, length, ap, sym, ◌∙◌, subst, arith}
use Rattle.std.proofs.lemmas.List.{length-append}
use Rattle.tw_shard.specs.Shard.{IsOpeningShard, no_shard}
use Rattle.tw_shard.proofs.Walks.{one_more}
use Rattle.tw_shard.proofs.shards.open_all.Goals as goal

pub loop-worker-init : goal.loop-worker-init
loop-worker-init c =
    let capacity = c.in_ok-shards.ensures.capacity in
    record { count = ap length c.in_ok-shards.ensures.items; room = omega arith; each = λ k none. absurd (omega arith) }

pub push_reserved-requires : goal.push_reserved-requires
push_reserved-requires c =
    let count = c.loop-worker.invariant.count in
    let room = c.loop-worker.invariant.room in
    let more = c.loop-worker-test.true in
    let len = c.loop-worker.shards.ok.0 in
    omega arith

pub loop-worker-preserved : goal.loop-worker-preserved
loop-worker-preserved c =
    let items = c.loop-worker.shards.items in
    let s = c.in_ok-open_with.field-0 in
    let count = c.loop-worker.invariant.count in
    let room = c.loop-worker.invariant.room in
    let capacity = c.push_reserved.ensures.capacity in
    let long = length-append items (s ∷ []) in
    record {
      count = ap length c.push_reserved.ensures.items ∙ omega arith;
      room = omega arith;
      each = λ k h.
          subst (λ xs. IsOpeningShard c.args.case.now k c.args.workers c.args.retains c.args.cancel (get_or xs k no_shard)) (sym c.push_reserved.ensures.items)
          (one_more (λ k s. IsOpeningShard c.args.case.now k c.args.workers c.args.retains c.args.cancel s) items s no_shard c.loop-worker.worker count c.loop-worker.invariant.each
          c.in_ok-open_with.ensures k h);
    }

pub returns-clause-count : goal.returns-clause-count
returns-clause-count c =
    let count = c.loop-worker.invariant.count in
    let past = c.loop-worker-test.false in
    let most = c.loop-worker.auto.worker-end in
    omega arith

pub returns-clause-each : goal.returns-clause-each
returns-clause-each c = λ k h. c.loop-worker.invariant.each k (let past = c.loop-worker-test.false in omega arith)
