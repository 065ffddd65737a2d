use Rattle.std.proofs.Common.{◌≡◌, ap, ◌∙◌, rules}
use Rattle.tw_model.specs.State.{IsState, State}
use Rattle.tw_handlers.specs.Undo.{state_before}
use Rattle.tw_handlers.proofs.Handled.{IsState-before, state_before-handled}
use Rattle.tw_handlers.proofs.undoing.take_back.Goals as goal

pub set_counters-requires-clause-counted : goal.set_counters-requires-clause-counted
set_counters-requires-clause-counted c =
    let router = c.args.router.now in
    let earlier : IsState router.net router.node (state_before router.net router.node router.state c.args.event.now c.args.note) =
    IsState-before router.net router.node c.requires.handled.0 c.args.event.now c.args.note router.state c.requires.handled.1 in
    search (rules, earlier)

pub set_counters-requires-clause-sessions : goal.set_counters-requires-clause-sessions
set_counters-requires-clause-sessions c =
    let router = c.args.router.now in
    let earlier : IsState router.net router.node (state_before router.net router.node router.state c.args.event.now c.args.note) =
    IsState-before router.net router.node c.requires.handled.0 c.args.event.now c.args.note router.state c.requires.handled.1 in
    search (rules, earlier)

pub returns : goal.returns
returns c = λ s h.
    let router = c.args.router.now in
    let back : c.set_counters.new.self ≡ record router { state = state_before router.net router.node router.state c.args.event.now c.args.note } = search rules in
    back ∙ ap (λ (x : State). record router { state = x }) (state_before-handled router.net router.node s c.args.event.now c.args.note router.state h)
