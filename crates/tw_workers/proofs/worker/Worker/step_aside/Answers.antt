use Rattle.std.proofs.Common.{sym, subst}
use Rattle.tw_workers.proofs.Places.{kept_same}
use Rattle.tw_workers.specs.Work.{PreservesShare}
use Rattle.tw_workers.proofs.worker.Worker.step_aside.Goals as goal

pub meet-seat-requires-clause-preserved : goal.meet-seat-requires-clause-preserved
meet-seat-requires-clause-preserved g c =
    subst (λ s. PreservesShare c.args.self.now.stop s c.args.self.now.share) (sym c.requires.seated.share) (kept_same c.args.self.now.stop c.args.self.now.share c.has_nothing.ensures.work)
