use Rattle.tw_threads.proofs.Ends.{left_turned}
use Rattle.tw_threads.proofs.workers.WorkerWork.work.Goals as goal

pub returns-clause-left : goal.returns-clause-left
returns-clause-left g c = left_turned c.args.table.now c.args.seat c.work.result.0 c.args.self.now c.work.new.self c.requires c.work.ensures.turned
