use Rattle.std.proofs.Common.{◌≡◌, ◌++◌, ℕ, List, length, refl, subst}
use Rattle.std.specs.Prelude.{IsOk, OnOk}
use Rattle.smallvec.specs.SmallVec.{HasRoomFor}
use Rattle.tw_event.specs.declared.event.Body.{Body}
use Rattle.tw_event.specs.declared.event.Body.TheVariants.{Start, Fail, Restore, Swap, Forbid, Allow, Update}
use Rattle.tw_event.specs.declared.event.Event.{Event}
use Rattle.tw_model.specs.Net.{Net}
use Rattle.tw_model.specs.State.{State}
use Rattle.tw_event.specs.declared.record.UndoRecord.{UndoRecord}
use Rattle.tw_handlers.specs.Undo.{sends_again, sends_of_settling}
use Rattle.tw_handlers.proofs.undoing.send_again.Goals as goal

-- all events but a repair send by settling
again_settled : (net : Net) (v : ℕ) (s : State) (e : Event) (b : Body) (u : UndoRecord) → ((w : ℕ) → b ≡ Restore w → ⊥)
    → sends_of_settling net v e.time s u ≡ sends_again net v s e b u
again_settled net v s e Start u h = refl
again_settled net v s e (Fail w) u h = refl
again_settled net v s e (Restore w) u h = absurd (h w refl)
again_settled net v s e (Swap i j) u h = refl
again_settled net v s e (Forbid k) u h = refl
again_settled net v s e (Allow k) u h = refl
again_settled net v s e (Update q n) u h = refl

pub returns-in_default : goal.returns-in_default
returns-in_default c =
    let router = c.args.router.now in
    let same = again_settled router.net router.node router.state c.args.event.now c.args.event.now.body c.args.note c.in_default.not-Restore in
    let told = c.send_settled.ensures in
    record {
      ok = subst (λ (l : List Event). OnOk c.send_settled.result (c.send_settled.new.sends.items ≡ c.args.sends.now.items ++ l)) same told.ok;
      succeeds = subst (λ (l : List Event). HasRoomFor c.args.sends.now (length l) → IsOk c.send_settled.result) same told.succeeds;
      err = told.err;
    }
