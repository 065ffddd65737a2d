use Rattle.std.proofs.Common.{◌-◌, count_by, drop, length, take, ap, ◌∙◌}
use Rattle.tw_event.specs.Order.{event_same}
use Rattle.tw_sim.specs.Ordered.{times}
use Rattle.tw_calendar.specs.Update.{event_at}
use Rattle.tw_ordered.proofs.Places.{equals}
use Rattle.tw_calendar.proofs.Sought.{count_through, rest_events}
use Rattle.tw_calendar.proofs.tick.Tick.count.Goals as goal

pub returns-clause-times : goal.returns-clause-times
returns-clause-times c =
    let a = c.self.inside in
    let e = c.args.event.now in
    let left = take (length a.updates.items - c.args.start) (drop c.args.start a.updates.items) in
    c.count_of.ensures ∙ ap (λ us. count_by (λ u. equals e (event_at a.time u)) (take (length us - c.args.start) (drop c.args.start us))) c.deref.ensures.value
    ∙ count_through e a.time left
    ∙ ap (times event_same e) (rest_events a.time a.updates.items c.args.start ∙ ap (drop c.args.start) c.self.view_is)
