use Rattle.std.proofs.Common.{◌++◌, ap, ◌∙◌}
use Rattle.tw_routing.proofs.Own.{fits_there, sent_is}
use Rattle.tw_routing.proofs.handlers.RoutingProcessModel.send.Goals as goal

pub send_again-requires-clause-fits : goal.send_again-requires-clause-fits
send_again-requires-clause-fits c = fits_there _ _ _ c.requires.own c.args.event.now c.requires.home c.requires.suits c.requires.time

pub returns-clause-sends : goal.returns-clause-sends
returns-clause-sends c = λ before noted known.
    c.send_again.ensures.sends ∙ ap (λ xs. c.args.sends.now.items ++ xs) (sent_is _ _ _ c.requires.own c.args.event.now c.requires.home before _ noted known)
