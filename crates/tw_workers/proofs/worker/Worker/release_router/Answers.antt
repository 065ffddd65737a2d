use Rattle.std.proofs.Common.{◌≡◌, Ok, true, sym, subst}
use Rattle.tw_shard.specs.Shard.{owns, releasing, shard_core}
use Rattle.tw_table.specs.Shares.{share}
use Rattle.tw_workers.proofs.Places.{kept_both, kept_released, work_kept}
use Rattle.tw_workers.specs.Work.{IsAtWork, PreservesShare, Worker}
use Rattle.tw_workers.proofs.worker.Worker.release_router.Goals as goal

pub invariant_of-self : goal.invariant_of-self
invariant_of-self c =
    let inside = c.self.inside in
    record {
      work = subst (λ s. IsAtWork inside.stop (share s inside.hand)) (sym c.in_err-release_at.ensures.err) c.self.invariant.work;
      stop = c.self.invariant.stop;
      none = c.self.invariant.none;
    }

pub invariant_of-self-2 : goal.invariant_of-self-2
invariant_of-self-2 c =
    let inside = c.self.inside in
    let s = share inside.shard inside.hand in
    let t = share c.release_at.new.shard inside.hand in
    let own = subst (λ (w : Worker). owns w.share.shard c.args.router ≡ true) (sym c.self.view_is) c.requires.own in
    let kept = kept_released inside.stop c.args.router s c.release_at.new.shard c.self.invariant.work c.release_at.ensures.same own (c.in_ok-release_at.ensures.ok inside.stop) in
    record { work = work_kept inside.stop s t c.self.invariant.work kept; stop = c.self.invariant.stop; none = c.self.invariant.none }

pub returns-clause-preserved : goal.returns-clause-preserved
returns-clause-preserved c = λ since before.
    let inside = c.self.inside in
    let s = share inside.shard inside.hand in
    let t = share c.release_at.new.shard inside.hand in
    let own = subst (λ (w : Worker). owns w.share.shard c.args.router ≡ true) (sym c.self.view_is) c.requires.own in
    let kept = kept_released inside.stop c.args.router s c.release_at.new.shard c.self.invariant.work c.release_at.ensures.same own (c.in_ok-release_at.ensures.ok inside.stop) in
    kept_both inside.stop since s t (subst (λ (w : Worker). PreservesShare w.stop since w.share) (sym c.self.view_is) before) kept

pub returns-clause-released : goal.returns-clause-released
returns-clause-released c =
    subst (λ (w : Worker). releasing 0 w.share.shard c.args.router ≡ Ok (shard_core 0 c.release_at.new.shard)) c.self.view_is (c.in_ok-release_at.ensures.ok 0)

pub returns-clause-work : goal.returns-clause-work
returns-clause-work c =
    let inside = c.self.inside in
    let s = share inside.shard inside.hand in
    let t = share c.release_at.new.shard inside.hand in
    let own = subst (λ (w : Worker). owns w.share.shard c.args.router ≡ true) (sym c.self.view_is) c.requires.own in
    let kept = kept_released inside.stop c.args.router s c.release_at.new.shard c.self.invariant.work c.release_at.ensures.same own (c.in_ok-release_at.ensures.ok inside.stop) in
    work_kept inside.stop s t c.self.invariant.work kept
