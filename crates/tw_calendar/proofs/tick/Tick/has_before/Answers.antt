use Rattle.std.proofs.Common.{◌==◌, ◌-◌, drop, length, take, ap, sym, ◌∙◌}
use Rattle.std.specs.List.{list_any}
use Rattle.tw_ordered.specs.Queue.{is_before}
use Rattle.tw_calendar.proofs.Early.{updates_early, updates_late}
use Rattle.tw_calendar.proofs.Sought.{rest_events}
use Rattle.tw_calendar.proofs.tick.Tick.has_before.Goals as goal

pub returns-then-self-limit : goal.returns-then-self-limit
returns-then-self-limit c =
    let a = c.self.inside in
    let us = a.updates.items in
    sym (updates_late c.args.router c.args.limit a.time (take (length us - c.args.start) (drop c.args.start us)) c.if-self-limit.true)
    ∙ ap (list_any (is_before c.args.router c.args.limit)) (rest_events a.time us c.args.start ∙ ap (drop c.args.start) c.self.view_is)

pub returns : goal.returns
returns c =
    let a = c.self.inside in
    let us = a.updates.items in
    c.has_receiver.ensures ∙ ap (λ vs. list_any (λ u. u.dst == c.args.router) (take (length vs - c.args.start) (drop c.args.start vs))) c.deref.ensures.value
    ∙ updates_early c.args.router c.args.limit a.time (take (length us - c.args.start) (drop c.args.start us)) c.if-self-limit.false
    ∙ ap (list_any (is_before c.args.router c.args.limit)) (rest_events a.time us c.args.start ∙ ap (drop c.args.start) c.self.view_is)
