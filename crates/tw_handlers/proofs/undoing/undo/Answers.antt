use Rattle.std.proofs.Common.{ap, ◌∙◌, ◌++◌, List, length, subst, sym}
use Rattle.std.proofs.lemmas.Bool.{false≢true}
use Rattle.smallvec.specs.SmallVec.{HasRoomFor}
use Rattle.tw_event.specs.declared.event.Event.{Event}
use Rattle.tw_handlers.proofs.Handled.{sends_again-handled}
use Rattle.tw_handlers.proofs.undoing.undo.Goals as goal

pub returns-clause-sends : goal.returns-clause-sends
returns-clause-sends c =
    λ s h. c.in_ok-send_again.ensures.ok
    ∙ ap (λ sends. c.args.sends.now.items ++ sends) (sends_again-handled c.args.router.now.net c.args.router.now.node s c.args.event.now c.args.note c.args.router.now.state h)

pub returns-in_err-send_again-clause-succeeds : goal.returns-in_err-send_again-clause-succeeds
returns-in_err-send_again-clause-succeeds c = λ s h room.
    let router = c.args.router.now in
    let told = sends_again-handled router.net router.node s c.args.event.now c.args.note router.state h in
    absurd (false≢true (c.in_err-send_again.ensures.succeeds (subst (λ (sends : List Event). HasRoomFor c.args.sends.now (length sends)) (sym told) room)))
