use Rattle.std.proofs.Common.{rules, ◌≡◌, ◌≤◌, Err, refl, sym, subst}
use Rattle.tw_core.specs.declared.refusal.Refusal.TheVariants as refusal
use Rattle.tw_model.specs.declared.memory.OrMemory.TheVariants as or_memory
use Rattle.tw_shard.proofs.Leasts.{one_told, refused_later}
use Rattle.tw_shard.specs.Shard.{handling, handling_least}
use Rattle.tw_table.specs.Shares.{share}
use Rattle.tw_workers.proofs.Places.{kept_both, kept_least, work_kept}
use Rattle.tw_workers.specs.Work.{PreservesShare, Worker}
use Rattle.tw_workers.proofs.worker.Worker.handle_before.Goals as goal

pub invariant_of-self : goal.invariant_of-self
invariant_of-self c =
    let inside = c.self.inside in
    let s = share inside.shard inside.hand in
    let t = share c.handle_least.new.self inside.hand in
    let until : c.args.limit ≤ inside.stop = subst (λ (w : Worker). c.args.limit ≤ w.stop) (sym c.self.view_is) c.requires in
    let kept = kept_least inside.stop s t c.self.invariant.work c.in-Ok.ensures.same (c.in-Ok.ensures.ok inside.stop until) refl refl in
    record {
      work = work_kept inside.stop s t c.self.invariant.work kept;
      stop = c.self.invariant.stop;
      none = c.self.invariant.none;
    }

pub returns-in-Ok-clause-preserved : goal.returns-in-Ok-clause-preserved
returns-in-Ok-clause-preserved c = λ since before.
    let inside = c.self.inside in
    let s = share inside.shard inside.hand in
    let t = share c.handle_least.new.self inside.hand in
    let until : c.args.limit ≤ inside.stop = subst (λ (w : Worker). c.args.limit ≤ w.stop) (sym c.self.view_is) c.requires in
    let kept = kept_least inside.stop s t c.self.invariant.work c.in-Ok.ensures.same (c.in-Ok.ensures.ok inside.stop until) refl refl in
    kept_both inside.stop since s t (subst (λ (w : Worker). PreservesShare w.stop since w.share) (sym c.self.view_is) before) kept

pub returns-in-Err-Fault-CounterFull-clause-full : goal.returns-in-Err-Fault-CounterFull-clause-full
returns-in-Err-Fault-CounterFull-clause-full c = λ is.
    let arm = c.in-Err-Fault-CounterFull in
    let inside = c.self.inside in
    let until : c.args.limit ≤ inside.stop = subst (λ (w : Worker). c.args.limit ≤ w.stop) (sym c.self.view_is) c.requires in
    let told : c.handle_least.result ≡ Err (or_memory.Fault refusal.CounterFull) = search rules in
    let at = one_told c.args.limit inside.shard (Err refusal.CounterFull) ((c.handle_least.ensures.refused refusal.CounterFull).0 told) (λ none. cc none) in
    let full = refused_later c.args.limit inside.stop inside.shard at.0 refusal.CounterFull until (λ none. cc none) at.1 in
    (at.0, subst (λ s. handling inside.stop s at.0 ≡ Err refusal.CounterFull) (sym arm.ensures.err) full)

-- where its router has no room
pub make_room_for_least-requires : goal.make_room_for_least-requires
make_room_for_least-requires c =
    let told : c.handle_least.result ≡ Err (or_memory.Fault refusal.AheadFull) = search rules in
    (c.args.limit, subst (λ s. handling_least c.args.limit s ≡ Err refusal.AheadFull) (sym c.in-Err-Fault-AheadFull.ensures.err) ((c.handle_least.ensures.refused refusal.AheadFull).0 told))

pub returns-in_err-make_room_for_least-in-Err-Fault-AheadFull-clause-preserved : goal.returns-in_err-make_room_for_least-in-Err-Fault-AheadFull-clause-preserved
returns-in_err-make_room_for_least-in-Err-Fault-AheadFull-clause-preserved c = λ since before.
    let inside = c.self.inside in
    c.make_room_for_least.ensures.preserved since
    (subst (λ s. PreservesShare inside.stop since (share s inside.hand)) (sym c.in-Err-Fault-AheadFull.ensures.err)
    (subst (λ (w : Worker). PreservesShare w.stop since w.share) (sym c.self.view_is) before))

pub returns-in_ok-make_room_for_least-in-Err-Fault-AheadFull-clause-preserved : goal.returns-in_ok-make_room_for_least-in-Err-Fault-AheadFull-clause-preserved
returns-in_ok-make_room_for_least-in-Err-Fault-AheadFull-clause-preserved c = λ since before.
    let inside = c.self.inside in
    c.make_room_for_least.ensures.preserved since
    (subst (λ s. PreservesShare inside.stop since (share s inside.hand)) (sym c.in-Err-Fault-AheadFull.ensures.err)
    (subst (λ (w : Worker). PreservesShare w.stop since w.share) (sym c.self.view_is) before))
