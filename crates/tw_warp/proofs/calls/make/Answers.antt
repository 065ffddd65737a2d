use Rattle.std.proofs.Common.{◌≡◌, ◌↔◌, true, Ok, Err, sym, subst}
use Rattle.std.specs.Prelude.{IsErrOf, OnOk}
use Rattle.tw_model.specs.declared.memory.OrMemory.TheVariants as or_memory
use Rattle.tw_core.specs.declared.refusal.Refusal.TheVariants.{NotMine}
use Rattle.tw_core.specs.Steps.{first_pending, handle, undo, with_commit, with_release, with_room}
use Rattle.tw_model.specs.Case.{simulation}
use Rattle.tw_shard.specs.Shard.{shard_core}
use Rattle.tw_warp.specs.Calls.{FreeAt, calling}
use Rattle.tw_warp.specs.declared.calls.RouterCall.TheVariants.{Commit, Handle, Release, Undo, Widen}
use Rattle.tw_warp.proofs.Free.{not_memory}
use Rattle.tw_warp.proofs.calls.make.Goals as goal

pub returns-in-Handle-clause-refused : goal.returns-in-Handle-clause-refused
returns-in-Handle-clause-refused c = λ f.
    subst (λ call. IsErrOf c.handle_next.result (or_memory.Fault f) ↔ (calling call c.args.stop c.args.shard.now c.args.router ≡ Err f)) (sym c.in-Handle.is)
    (c.handle_next.ensures.refused f)

pub returns-in-Undo-clause-refused : goal.returns-in-Undo-clause-refused
returns-in-Undo-clause-refused c = λ f.
    subst (λ call. IsErrOf c.undo_last.result (or_memory.Fault f) ↔ (calling call c.args.stop c.args.shard.now c.args.router ≡ Err f)) (sym c.in-Undo.is)
    (c.undo_last.ensures.refused c.args.stop f)

pub returns-in-Commit-clause-refused : goal.returns-in-Commit-clause-refused
returns-in-Commit-clause-refused c = λ f.
    subst (λ call. IsErrOf c.commit.result (or_memory.Fault f) ↔ (calling call c.args.stop c.args.shard.now c.args.router ≡ Err f)) (sym c.in-Commit.is)
    (c.commit.ensures.refused c.args.stop f)

pub returns-in-Commit-clause-ok : goal.returns-in-Commit-clause-ok
returns-in-Commit-clause-ok c =
    subst (λ call. OnOk c.commit.result (calling call c.args.stop c.args.shard.now c.args.router ≡ Ok (shard_core c.args.stop c.commit.new.self))) (sym c.in-Commit.is)
    (c.commit.ensures.ok c.args.stop)

pub returns-in-Release-clause-refused : goal.returns-in-Release-clause-refused
returns-in-Release-clause-refused c = λ f.
    subst (λ call. IsErrOf c.release.result (or_memory.Fault f) ↔ (calling call c.args.stop c.args.shard.now c.args.router ≡ Err f)) (sym c.in-Release.is)
    (c.release.ensures.refused c.args.stop f)

pub returns-in-Widen-clause-refused : goal.returns-in-Widen-clause-refused
returns-in-Widen-clause-refused c = λ f.
    subst (λ call. IsErrOf c.widen.result (or_memory.Fault f) ↔ (calling call c.args.stop c.args.shard.now c.args.router ≡ Err f)) (sym c.in-Widen.is)
    (c.widen.ensures.refused c.args.stop f)

pub returns-in-Handle-clause-free : goal.returns-in-Handle-clause-free
returns-in-Handle-clause-free c = λ free told.
    let s = c.args.shard.now in
    let r = c.args.router in
    let m = simulation s.terms.case in
    let C = shard_core c.args.stop s in
    let at : FreeAt c.args.call s r → FreeAt Handle s r = λ h. subst (λ call. FreeAt call s r) c.in-Handle.is h in
    not_memory s r (handle m C r (first_pending m C r)) c.handle_next.result (λ own. absurd (at (free own))) (c.handle_next.ensures.refused NotMine) told

pub returns-in-Undo-clause-free : goal.returns-in-Undo-clause-free
returns-in-Undo-clause-free c = λ free told.
    let s = c.args.shard.now in
    let r = c.args.router in
    let m = simulation s.terms.case in
    let C = shard_core c.args.stop s in
    let at : FreeAt c.args.call s r → FreeAt Undo s r = λ h. subst (λ call. FreeAt call s r) c.in-Undo.is h in
    not_memory s r (undo m C r (C.history r)) c.undo_last.result (λ own. absurd (at (free own))) (c.undo_last.ensures.refused c.args.stop NotMine) told

pub returns-in-Commit-clause-free : goal.returns-in-Commit-clause-free
returns-in-Commit-clause-free c = λ free told.
    let s = c.args.shard.now in
    let r = c.args.router in
    let m = simulation s.terms.case in
    let C = shard_core c.args.stop s in
    let at : FreeAt c.args.call s r → FreeAt Commit s r = λ h. subst (λ call. FreeAt call s r) c.in-Commit.is h in
    not_memory s r (Ok (with_commit m C r)) c.commit.result (λ own. c.commit.ensures.free own (at (free own))) (c.commit.ensures.refused c.args.stop NotMine) told

pub returns-in-Release-clause-free : goal.returns-in-Release-clause-free
returns-in-Release-clause-free c = λ free told.
    let s = c.args.shard.now in
    let r = c.args.router in
    let m = simulation s.terms.case in
    let C = shard_core c.args.stop s in
    let at : FreeAt c.args.call s r → FreeAt Release s r = λ h. subst (λ call. FreeAt call s r) c.in-Release.is h in
    not_memory s r (Ok (with_release m C r)) c.release.result (λ own. c.release.ensures.free own (at (free own))) (c.release.ensures.refused c.args.stop NotMine) told

pub returns-in-Widen-clause-free : goal.returns-in-Widen-clause-free
returns-in-Widen-clause-free c = λ free told.
    let s = c.args.shard.now in
    let r = c.args.router in
    let m = simulation s.terms.case in
    let C = shard_core c.args.stop s in
    let at : FreeAt c.args.call s r → FreeAt Widen s r = λ h. subst (λ call. FreeAt call s r) c.in-Widen.is h in
    not_memory s r (Ok (with_room m C r)) c.widen.result (λ own. c.widen.ensures.free own (at (free own))) (c.widen.ensures.refused c.args.stop NotMine) told
