use Rattle.std.proofs.Common.{sym, subst}
use Rattle.tw_workers.specs.Work.{PreservesShare, Worker}
use Rattle.tw_workers.proofs.worker.Worker.handle_some.Goals as goal

pub returns-clause-preserved : goal.returns-clause-preserved
returns-clause-preserved c = λ s kept.
    subst (λ (w : Worker). PreservesShare w.stop s w.share) (sym c.self-2.view_is)
    (c.send_rest.ensures.preserved s (c.receive_own.ensures.preserved s (c.handle_and_release.ensures.preserved s (c.deliver.ensures.preserved s kept))))
