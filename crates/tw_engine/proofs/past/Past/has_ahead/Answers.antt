use Rattle.std.proofs.Common.{nat_lt, ap, ◌∙◌}
use Rattle.std.specs.List.{list_any}
use Rattle.tw_pending.specs.Order.{count, is_same}
use Rattle.tw_engine.proofs.Commits.{has_event}
use Rattle.tw_engine.proofs.past.Past.has_ahead.Goals as goal

pub returns : goal.returns
returns g c =
    let e = c.args.event.now in
    c.is_among.ensures
    ∙ (ap (list_any (λ d. is_same g.M.Event.Ord.cmp e d.event)) c.deref.ensures.value
    ∙ (has_event g.M.Event.Ord.cmp e c.self.inside.steps.items ∙ ap (λ p. nat_lt 0 (count g.M.Event.Ord.cmp e p.ahead)) c.self.view_is))
