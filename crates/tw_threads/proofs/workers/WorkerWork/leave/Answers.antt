use Rattle.std.proofs.Common.{sym, subst}
use Rattle.tw_threads.proofs.Ends.{left_turned}
use Rattle.tw_workers.proofs.Places.{kept_same}
use Rattle.tw_workers.specs.Work.{PreservesShare}
use Rattle.tw_threads.proofs.workers.WorkerWork.leave.Goals as goal

pub leave-requires-clause-preserved : goal.leave-requires-clause-preserved
leave-requires-clause-preserved g c =
    let worker = c.args.self.now in
    subst (λ s. PreservesShare worker.stop s worker.share) (sym c.requires.share) (kept_same worker.stop worker.share c.shard.ensures.work)

pub returns-clause-left : goal.returns-clause-left
returns-clause-left g c = left_turned c.args.table.now c.args.seat c.leave.result c.args.self.now c.args.self.now c.requires c.leave.ensures.turned
