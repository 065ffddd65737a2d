use Rattle.std.proofs.Common.{map, sym, ◌∙◌, slice_index, add-one, arith}
use lib.Pointwise.{pointwise}
use Rattle.tw_event.specs.Order.{event_same}
use Rattle.tw_event.specs.declared.event.Body.TheVariants.{Start}
use Rattle.tw_event.specs.declared.event.Event.{Event}
use Rattle.tw_event.proofs.Order.{event_eq}
use Rattle.tw_shape.specs.Shape.{seen_from, sooner}
use Rattle.tw_shape.proofs.Multiset.{alike_next, alike_not}
use Rattle.tw_shape.proofs.seen.are_alike.Goals as goal

-- what stands past the end
abbrev no_event : Event
no_event = record { time = 0; dst = 0; src = 0; seq = 0; body = Start }

pub returns-then-not-is_same : goal.returns-then-not-is_same
returns-then-not-is_same c =
    let f : Event → Event = λ e. sooner c.args.ticks (seen_from c.args.some.now.time (slice_index c.args.some.now.sent.items e.src) e) in
    let g : Event → Event = λ e. sooner c.args.other_ticks (seen_from c.args.others.now.time (slice_index c.args.others.now.sent.items e.src) e) in
    let lens = c.if-left-right.false in
    let short = c.loop-i-test.true in
    let apart = sym (event_eq c.see.result c.see-in-loop-i.result) ∙ sym c.eq-is_same.ensures ∙ c.if-not-is_same.true in
    alike_not f g c.as_slice-left.result.now c.as_slice-right.result.now c.loop-i.i no_event (omega arith) (omega arith) (rw (c.see.ensures, c.see-in-loop-i.ensures) at apart)
    ∙ c.loop-i.invariant ∙ (λ i. pointwise event_same (map f (c.as_slice-left.ensures.value i)) (map g (c.as_slice-right.ensures.value i)))

pub loop-i-preserved : goal.loop-i-preserved
loop-i-preserved c =
    let f : Event → Event = λ e. sooner c.args.ticks (seen_from c.args.some.now.time (slice_index c.args.some.now.sent.items e.src) e) in
    let g : Event → Event = λ e. sooner c.args.other_ticks (seen_from c.args.others.now.time (slice_index c.args.others.now.sent.items e.src) e) in
    let lens = c.if-left-right.false in
    let short = c.loop-i-test.true in
    let alike = sym (event_eq c.see.result c.see-in-loop-i.result) ∙ sym c.eq-is_same.ensures ∙ c.if-not-is_same.false in
    rw add-one (alike_next f g c.as_slice-left.result.now c.as_slice-right.result.now c.loop-i.i no_event (omega arith) (omega arith) (rw (c.see.ensures, c.see-in-loop-i.ensures) at alike)
    ∙ c.loop-i.invariant)
