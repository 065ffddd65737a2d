use Rattle.std.proofs.Common.{◌≡◌, ◌++◌, slice_get, ap, sym, ◌∙◌, arith}
use Rattle.tw_event.specs.Order.{event_before}
use Rattle.tw_ordered.specs.InOrder.{in_order}
use Rattle.tw_ordered.specs.Times.{first_time}
use Rattle.tw_calendar.proofs.Merged.{first_time_low, sooner_ring}
use Rattle.tw_queue.proofs.merged.copy_before.Goals as goal

-- the first at hand is the first of all
first : (c : goal.Then-copy_hand) → slice_get (in_order event_before (c.args.calendar.now ++ c.args.rest.now.events)) 0 ≡ slice_get c.args.calendar.now 0
first c =
    let rest = c.args.rest.now in
    let m = c.min-2.ensures in
    sooner_ring c.args.calendar.now rest.events c.min-2.result c.are_in_order.ensures (omega (arith, c.min-2.type_inv)) (let same = ap first_time c.begin_tick.ensures in omega (arith, c.if-copy_hand.ensures.before)) (λ e there.
    let l = first_time_low rest.events c.len.ensures.queue.rising e there in
    let t = c.requires in
    omega arith)

pub returns-then-copy_hand-clause-some : goal.returns-then-copy_hand-clause-some
returns-then-copy_hand-clause-some c = c.if-copy_hand.ensures.some ∙ ap (λ xs. slice_get xs 0) c.begin_tick.ensures ∙ sym (first c)
