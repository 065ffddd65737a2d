use Rattle.std.proofs.Common.{ap, ◌∙◌}
use Rattle.tw_model.specs.Effect.{with_bar}
use Rattle.tw_model.specs.State.{Router, State}
use Rattle.tw_handlers.proofs.Reacting.{reacts_back, reacts_on}
use Rattle.tw_handlers.proofs.Rows.{with_bar-with_bar}
use Rattle.tw_handlers.proofs.settle.settle_with_bar.Goals as goal

pub returns-in-Ok-clause-reaction : goal.returns-in-Ok-clause-reaction
returns-in-Ok-clause-reaction c =
    reacts_on c.args.router.now c.set_barred.new.self c.settle.new.router c.args.time _ c.args.sends.now.items c.settle.new.sends.items c.in-Ok.changed
    c.set_barred.ensures c.in-Ok.ensures.reaction

pub returns-in-Err-clause-reaction : goal.returns-in-Err-clause-reaction
returns-in-Err-clause-reaction c =
    let router = c.args.router.now in
    reacts_back router c.set_barred.new.self c.settle.new.router c.set_barred-in-Err.new.self c.args.time _ c.args.sends.now.items c.settle.new.sends.items c.in-Err.error
    c.set_barred.ensures c.in-Err.ensures.reaction
    (c.set_barred-in-Err.ensures
    ∙ (ap (λ (r : Router). record r { state = with_bar r.state c.args.line c.is_barred-kept.result }) (c.in-Err.ensures.reaction.err ∙ c.set_barred.ensures)
    ∙ ap (λ (s : State). record router { state = s }) (with_bar-with_bar router.state c.args.line c.args.barred c.is_barred-kept.result c.is_barred-kept.ensures)))
