use Rattle.std.proofs.Common.{sym, ◌∙◌}
use Rattle.tw_handlers.proofs.Settled.{reacts_allowed}
use Rattle.tw_handlers.proofs.handling.handle_allow.Goals as goal

pub returns-clause-reaction : goal.returns-clause-reaction
returns-clause-reaction c =
    reacts_allowed c.args.router.now c.args.event.now c.args.line c.requires.body (sym c.is_barred.ensures ∙ c.if-not-is_barred.false) c.in_ok-changed.ensures.reaction
