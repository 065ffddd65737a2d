use Rattle.std.proofs.Common.{ℕ, ap₂, ◌∙◌}
use Rattle.std.proofs.lemmas.Bool.{not-false}
use Rattle.tw_model.specs.Net.{Net}
use Rattle.tw_model.specs.State.{slot}
use Rattle.tw_handlers.proofs.Settled.{reacts_failed}
use Rattle.tw_handlers.proofs.handling.handle_fail.Goals as goal

pub returns-clause-reaction : goal.returns-clause-reaction
returns-clause-reaction c =
    reacts_failed c.args.router.now c.args.event.now c.args.peer c.slot_of_peer-slot.result c.row-row.result c.requires.body
    (c.slot_of_peer-slot.ensures.value ∙ ap₂ (λ (x : Net) (y : ℕ). slot x y c.args.peer) c.requires.reaction.own c.node.ensures.value)
    c.row-row.ensures.value (not-false c.row-row.result.up c.if-not-row.false) c.in_ok-changed.ensures.reaction
