use Rattle.std.proofs.Common.{ap, arith, ◌∙◌}
use Rattle.tw_model.specs.Effect.{with_swap}
use Rattle.tw_model.specs.State.{Router, State}
use Rattle.tw_handlers.proofs.Reacting.{reacts_back, reacts_on, told_err, told_ok}
use Rattle.tw_handlers.proofs.Rows.{with_swap-with_swap}
use Rattle.tw_handlers.proofs.handling.handle_swap.Goals as goal

pub returns-in-Ok-clause-reaction : goal.returns-in-Ok-clause-reaction
returns-in-Ok-clause-reaction c =
    told_ok c.args.router.now c.args.event.now c.requires.body
    (reacts_on c.args.router.now c.swap.new.self c.settle.new.router c.args.event.now.time _ c.args.sends.now.items c.settle.new.sends.items c.in-Ok.changed
    c.swap.ensures c.in-Ok.ensures.reaction)

pub returns-in-Err-clause-reaction : goal.returns-in-Err-clause-reaction
returns-in-Err-clause-reaction c =
    let router = c.args.router.now in
    told_err router c.args.event.now c.requires.body
    (reacts_back router c.swap.new.self c.settle.new.router c.swap-in-Err.new.self c.args.event.now.time _ c.args.sends.now.items c.settle.new.sends.items c.in-Err.error
    c.swap.ensures c.in-Err.ensures.reaction
    (c.swap-in-Err.ensures
    ∙ (ap (λ (r : Router). record r { state = with_swap r.state c.args.first c.args.second }) (c.in-Err.ensures.reaction.err ∙ c.swap.ensures)
    ∙ ap (λ (s : State). record router { state = s }) (with_swap-with_swap router.state c.args.first c.args.second
    (omega (arith, c.requires.first_place, c.requires.first_within)) (omega (arith, c.requires.second_place, c.requires.second_within))))))
