use Rattle.std.proofs.Common.{◌-◌, drop, length, take, ap, ◌∙◌}
use Rattle.tw_calendar.specs.Update.{events_at}
use Rattle.tw_calendar.proofs.Sought.{rest_events}
use Rattle.tw_calendar.proofs.tick.Tick.refill.Goals as goal

pub returns-clause-filled : goal.returns-clause-filled
returns-clause-filled c =
    let b = c.other.inside in
    ap (events_at b.time) c.if-not-fill.ensures.filled ∙ ap (λ us. events_at b.time (take (length us - c.args.start) (drop c.args.start us))) c.deref.ensures.value
    ∙ rest_events b.time b.updates.items c.args.start ∙ ap (drop c.args.start) c.other.view_is
