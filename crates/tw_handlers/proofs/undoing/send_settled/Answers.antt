use Rattle.std.proofs.Common.{◌≡◌, ℕ, true, length, sym, subst, ◌∙◌}
use Rattle.std.proofs.lemmas.Bool.{false≢true, not-false}
use Rattle.smallvec.specs.SmallVec.{HasRoomFor}
use Rattle.tw_model.specs.Effect.{ups}
use Rattle.tw_model.specs.Net.{Net}
use Rattle.tw_model.specs.State.{State}
use Rattle.tw_event.specs.declared.record.UndoRecord.{UndoRecord}
use Rattle.tw_handlers.specs.Undo.{sends_of_settling}
use Rattle.tw_handlers.proofs.Pairs.{length-updates_to}
use Rattle.tw_handlers.proofs.undoing.send_settled.Goals as goal

length-sends_of_settling : (net : Net) (v t : ℕ) (s : State) (u : UndoRecord) → u.changed ≡ true → length (sends_of_settling net v t s u) ≡ length (ups net v s)
length-sends_of_settling net v t s u is = rw is (length-updates_to v t s.rib _ (ups net v s))

pub returns-in_err-reserve-clause-succeeds : goal.returns-in_err-reserve-clause-succeeds
returns-in_err-reserve-clause-succeeds c = λ room.
    let router = c.args.router.now in
    let changed = not-false c.args.note.changed c.if-not-note.false in
    let told = length-sends_of_settling router.net router.node c.args.event.now.time router.state c.args.note changed in
    absurd (false≢true (c.in_err-reserve.ensures.succeeds (subst (HasRoomFor c.args.sends.now) (told ∙ sym c.count_up-count.ensures.value) room)))
