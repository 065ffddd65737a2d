use Rattle.std.proofs.Common.{ℕ, ap₂, ◌∙◌}
use Rattle.tw_model.specs.Net.{Net}
use Rattle.tw_model.specs.State.{slot}
use Rattle.tw_handlers.proofs.Settled.{reacts_heard}
use Rattle.tw_handlers.proofs.handling.handle_update.Goals as goal

pub returns-clause-reaction : goal.returns-clause-reaction
returns-clause-reaction c =
    reacts_heard c.args.router.now c.args.event.now c.args.path c.args.session c.slot_of_peer-slot.result c.row-row.result c.requires.body
    (c.slot_of_peer-slot.ensures.value ∙ ap₂ (λ (x : Net) (y : ℕ). slot x y c.args.event.now.src) c.requires.reaction.own c.node.ensures.value)
    c.row-row.ensures.value c.if-not-row.false c.if-row-session.false c.in_ok-changed.ensures.reaction
