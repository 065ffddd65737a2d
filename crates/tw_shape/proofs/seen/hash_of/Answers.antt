use Rattle.std.proofs.Common.{slice_index, ap, ◌∙◌}
use Rattle.tw_shape.specs.Packed.{hash_by}
use Rattle.tw_shape.specs.Shape.{seen_from, sooner}
use Rattle.tw_shape.proofs.Hashing.{hash_first}
use Rattle.tw_shape.proofs.Packing.{seen_later}
use Rattle.tw_shape.proofs.seen.hash_of.Goals as goal

pub loop-event-init : goal.loop-event-init
loop-event-init c =
    hash_first c.args.spans.now (λ e. sooner c.args.ticks (seen_from c.args.pending.now.time (slice_index c.args.pending.now.sent.items e.src) e))
    c.args.pending.now.events.items c.hash_of_spans-sum.result c.hash_of_spans-sum.ensures
    ∙ ap (hash_by c.args.spans.now) (seen_later c.args.pending.now.time c.args.ticks c.args.pending.now.sent.items c.args.pending.now.events.items)
