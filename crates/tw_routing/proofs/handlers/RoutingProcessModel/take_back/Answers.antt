use Rattle.std.proofs.Common.{ap, ◌∙◌}
use Rattle.tw_routing.proofs.Own.{came_from}
use Rattle.tw_routing.proofs.handlers.RoutingProcessModel.take_back.Goals as goal

pub take_back-requires-clause-handled : goal.take_back-requires-clause-handled
take_back-requires-clause-handled c =
    (c.requires.note.0, came_from _ _ _ c.requires.own c.args.event.now c.requires.home c.requires.note.0 _ c.requires.note.1 c.requires.note.2)

pub returns-clause-own : goal.returns-clause-own
returns-clause-own c =
    let back = c.take_back.ensures c.requires.note.0
    (came_from _ _ _ c.requires.own c.args.event.now c.requires.home c.requires.note.0 _ c.requires.note.1 c.requires.note.2) in
    record { net = ap (λ x. x.net) back ∙ c.requires.own.net; node = ap (λ x. x.node) back ∙ c.requires.own.node }

pub returns-clause-known : goal.returns-clause-known
returns-clause-known c = λ before noted known.
    ap (λ x. x.state) (c.take_back.ensures before (came_from _ _ _ c.requires.own c.args.event.now c.requires.home before _ noted known))
