use Rattle.std.proofs.Common.{◌==◌, ◌-◌, drop, filter, length, take, ap, ◌∙◌}
use Rattle.tw_ordered.specs.InOrder.{least_with}
use Rattle.tw_calendar.specs.Update.{events_at}
use Rattle.tw_calendar.proofs.Sought.{rest_events}
use Rattle.tw_calendar.proofs.tick.Tick.least_at.Goals as goal

pub returns : goal.returns
returns c =
    let a = c.self.inside in
    let r = c.args.router in
    c.least_for.ensures ∙ ap (λ us. least_with c.args.least (filter (λ e. e.dst == r) (events_at a.time (take (length us - c.args.start) (drop c.args.start us))))) c.deref.ensures.value
    ∙ ap (λ xs. least_with c.args.least (filter (λ e. e.dst == r) xs)) (rest_events a.time a.updates.items c.args.start ∙ ap (drop c.args.start) c.self.view_is)
