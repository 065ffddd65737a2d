use Rattle.std.proofs.Common.{◌≡◌, ◌+◌, ◌-◌, ◌≤◌, ◌∷◌, [], ◌++◌, append_assoc, reverse, slice_get, Some, None, ap, sym, ◌∙◌, subst, arith}
use Rattle.std.specs.Prelude.{vec_capacity, vec_len}
use Rattle.tw_shard.specs.Shard.{timeline}
use Rattle.tw_shard.specs.Timeline.{history}
use Rattle.tw_shard.proofs.Walks.{take_next, take_past}
use Rattle.tw_shard.proofs.shards.add_committed.Goals as goal
use Rattle.tw_shard.proofs.shards.add_committed.Goals.{in-Some, in_default}

pub loop-k-preserved : goal.loop-k-preserved
loop-k-preserved c =
    let h = reverse (history (timeline c.args.shard.now c.args.router)) in
    let k = c.loop-k.k in
    let old = c.args.events.now.items in
    let inv = c.loop-k.invariant in
    let room = inv.room in
    let more = c.loop-k-test.true in
    elim c.match-handled.branch [
      | in-Some w ↦ (
          let e = w.in-Some.event in
          let len = w.push_reserved.ensures.len in
          let capacity = w.push_reserved.ensures.capacity in
          let got : slice_get h k ≡ Some e = sym c.handled.ensures ∙ w.in-Some.is in
          record {
            items = ap (λ v. v.items) w.events-is
                ∙ (w.push_reserved.ensures.items
                ∙ (ap (λ xs. xs ++ e ∷ []) inv.items
                ∙ (append_assoc old _ (e ∷ []) ∙ ap (λ t. old ++ t) (sym (take_next h k e got)))));
            room = subst (λ v. vec_len v + (c.committed-count.result - (k + 1)) ≤ vec_capacity v) (sym w.events-is) (omega arith);
          })
      | in_default w ↦ (
          let none : slice_get h k ≡ None = sym c.handled.ensures ∙ w.in_default.is in
          record {
            items = ap (λ v. v.items) w.events-is ∙ (inv.items ∙ ap (λ t. old ++ t) (sym (take_past h k none)));
            room = subst (λ v. vec_len v + (c.committed-count.result - (k + 1)) ≤ vec_capacity v) (sym w.events-is) (omega arith);
          })
    ]
