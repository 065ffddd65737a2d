use Rattle.std.proofs.Common.{◌-◌, ap, ◌∙◌}
use Rattle.tw_shape.specs.Packed.{least_time}
use Rattle.tw_shape.proofs.Packing.{due_in_order, hash_stored}
use Rattle.tw_shape.proofs.shape.Shape.of_parts.Goals as goal

pub invariant_of-result : goal.invariant_of-result
invariant_of-result c = record {
  covers = c.requires;
  due = due_in_order c.args.pending.time c.saturating_sub-due.result c.args.pending.sent.items c.args.pending.events.items
      (c.saturating_sub-due.ensures ∙ ap (λ k. k - c.args.pending.time) (c.least_time.ensures ∙ ap least_time c.deref.ensures.value));
  hash = hash_stored c.args.parts.spans.items c.args.pending.time c.saturating_sub-due.result c.args.pending.sent.items c.args.pending.events.items c.hash_of-hash.result
      (rw c.deref-2.ensures.value at c.hash_of-hash.ensures);
}
