use Rattle.std.proofs.Common.{◌≡◌, drop, map, slice_index}
use lib.Pointwise.{pointwise}
use Rattle.tw_event.specs.Order.{event_same}
use Rattle.tw_shape.specs.Shape.{seen_from, sooner}
use Rattle.tw_shape.proofs.seen.are_alike.Given as goal

-- those that are left decide
abbrev pub invariant-loop-i : goal.invariant-loop-i
invariant-loop-i l =
    pointwise event_same (map (λ e. sooner l.ticks (seen_from l.some.time (slice_index l.some.sent.items e.src) e)) (drop l.i l.left))
    (map (λ e. sooner l.other_ticks (seen_from l.others.time (slice_index l.others.sent.items e.src) e)) (drop l.i l.right))
    ≡ pointwise event_same (map (λ e. sooner l.ticks (seen_from l.some.time (slice_index l.some.sent.items e.src) e)) l.left)
    (map (λ e. sooner l.other_ticks (seen_from l.others.time (slice_index l.others.sent.items e.src) e)) l.right)
