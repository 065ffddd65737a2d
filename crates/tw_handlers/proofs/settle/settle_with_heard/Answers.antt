use Rattle.tw_handlers.proofs.Reacting.{reacts_back, reacts_on, row_back}
use Rattle.tw_handlers.proofs.settle.settle_with_heard.Goals as goal

pub returns-in-Ok-clause-reaction : goal.returns-in-Ok-clause-reaction
returns-in-Ok-clause-reaction c =
    reacts_on c.args.router.now c.set_heard.new.self c.settle.new.router c.args.time _ c.args.sends.now.items c.settle.new.sends.items c.in-Ok.changed
    c.set_heard.ensures c.in-Ok.ensures.reaction

pub returns-in-Err-clause-reaction : goal.returns-in-Err-clause-reaction
returns-in-Err-clause-reaction c =
    reacts_back c.args.router.now c.set_heard.new.self c.settle.new.router c.set_row.new.self c.args.time _ c.args.sends.now.items c.settle.new.sends.items c.in-Err.error
    c.set_heard.ensures c.in-Err.ensures.reaction
    (row_back c.args.router.now c.set_heard.new.self c.settle.new.router c.set_row.new.self c.args.slot _ c.row-kept.result
    c.set_heard.ensures c.in-Err.ensures.reaction.err c.set_row.ensures c.row-kept.ensures.value)
