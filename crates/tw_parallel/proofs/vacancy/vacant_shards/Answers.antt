use Rattle.std.proofs.Common.{◌≡◌, ◌∷◌, ◌-◌, ◌==◌, [], filter, get_or, length, ap, sym, ◌∙◌, subst, arith}
use Rattle.std.proofs.lemmas.List.{length-append}
use Rattle.std.specs.List.{range_with_len}
use Rattle.tw_parallel.specs.Vacancy.{Start, no_vacant, owner_in, vacant_from}
use Rattle.tw_shard.proofs.Walks.{one_more}
use Rattle.tw_shard.specs.Vacant.{Vacant}
use Rattle.tw_parallel.proofs.vacancy.vacant_shards.Goals as goal

pub loop-worker-init : goal.loop-worker-init
loop-worker-init c =
    let capacity = c.in_ok-vacant.ensures.capacity in
    record { count = ap length c.in_ok-vacant.ensures.items; room = omega arith; each = λ k none. absurd (omega arith) }

pub push_reserved-requires : goal.push_reserved-requires
push_reserved-requires c =
    let count = c.loop-worker.invariant.count in
    let room = c.loop-worker.invariant.room in
    let more = c.loop-worker-test.true in
    let len = c.loop-worker.vacant.ok.0 in
    omega arith

pub loop-worker-preserved : goal.loop-worker-preserved
loop-worker-preserved c =
    let start : Start = record { case = c.args.case.now; owners = c.args.owners.now; workers = c.args.workers; time = c.args.time; retains = c.args.retains; cancel = c.args.cancel } in
    let items = c.loop-worker.vacant.items in
    let v = c.in_ok-at.field-0 in
    let count = c.loop-worker.invariant.count in
    let room = c.loop-worker.invariant.room in
    let capacity = c.push_reserved.ensures.capacity in
    let long = length-append items (v ∷ []) in
    let w = c.loop-worker.worker in
    let nodes = start.case.net.nodes in
    let all : nodes ≡ nodes - 0 = omega arith in
    let now : v ≡ vacant_from start 0 w = c.in_ok-at.ensures ∙ ap (λ n. record (vacant_from start 0 w) { missing = filter (λ r. owner_in start r == w) (range_with_len 0 n) }) all in
    record {
      count = ap length c.push_reserved.ensures.items ∙ omega arith;
      room = omega arith;
      each = λ k h.
          subst (λ xs. get_or xs k no_vacant ≡ vacant_from start 0 k) (sym c.push_reserved.ensures.items)
          (one_more (λ k u. u ≡ vacant_from start 0 k) items v no_vacant w count c.loop-worker.invariant.each now k h);
    }

pub returns : goal.returns
returns c = record {
  count = (let count = c.loop-worker.invariant.count in let past = c.loop-worker-test.false in let most = c.loop-worker.auto.worker-end in omega arith);
  each = λ k h. c.loop-worker.invariant.each k (let past = c.loop-worker-test.false in omega arith);
}
