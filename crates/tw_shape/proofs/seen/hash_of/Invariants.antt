use Rattle.std.proofs.Common.{◌≡◌, ◌+◌, ◌%◌, ◌^◌, drop, map, slice_index}
use Rattle.std.specs.List.{sum_by}
use Rattle.tw_shape.specs.Packed.{hash_by, seen, word}
use Rattle.tw_shape.specs.Shape.{seen_from, sooner}
use Rattle.tw_shape.proofs.seen.hash_of.Given as goal

-- those that are left are still to be added
abbrev pub invariant-loop-event : goal.invariant-loop-event
invariant-loop-event l =
    (l.sum + sum_by (λ e. word (sooner l.ticks (seen_from l.pending.time (slice_index l.pending.sent.items e.src) e))) (drop l.event-index l.pending.events.items)) % 2 ^ 64
    ≡ hash_by l.spans (map (sooner l.ticks) (seen l.pending.time l.pending.sent.items l.pending.events.items))
