use Rattle.std.proofs.Common.{sym, arith}
use Rattle.tw_calendar.proofs.Merged.{first_time_low, sooner_ring}
use Rattle.tw_queue.proofs.merged.first_of_rest.Goals as goal

pub returns-then-least_time-rest_time-clause-calendar : goal.returns-then-least_time-rest_time-clause-calendar
returns-then-least_time-rest_time-clause-calendar c =
    let rest = c.args.rest.now in
    sooner_ring c.args.calendar.now rest.events c.args.rest_time c.are_in_order.ensures (omega arith) (omega (arith, sym c.least_time.ensures, c.if-least_time-rest_time.true)) (λ e there.
    let l = first_time_low rest.events c.len.ensures.queue.rising e there in
    let t = c.requires in
    omega arith)
