use Rattle.std.proofs.Common.{◌++◌, inr, ap, ◌∙◌, arith}
use Rattle.tw_event.specs.Order.{event_before}
use Rattle.tw_ordered.specs.InOrder.{in_order}
use Rattle.tw_calendar.proofs.Merged.{first_time_low, ring_taken, sooner_ring}
use Rattle.tw_queue.proofs.merged.skip_first.Goals as goal

pub returns-then-skip_hand-clause-events : goal.returns-then-skip_hand-clause-events
returns-then-skip_hand-clause-events c =
    let calendar = c.args.calendar.now in
    let rest = c.args.rest.now in
    let told = c.if-skip_hand.ensures in
    let first =
    sooner_ring calendar rest.events c.args.rest_time.now c.are_in_order.ensures (omega arith) told.before (λ e there.
    let l = first_time_low rest.events c.len.ensures.queue.rising e there in
    let t = c.requires in
    omega arith) in
    ap (λ xs. in_order event_before (xs ++ rest.events)) told.taken ∙ ring_taken calendar rest.events first

pub returns-then-skip_hand-clause-calendar : goal.returns-then-skip_hand-clause-calendar
returns-then-skip_hand-clause-calendar c = inr c.if-skip_hand.ensures.taken
