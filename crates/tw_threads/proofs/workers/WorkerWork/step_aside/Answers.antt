use Rattle.tw_threads.proofs.Ends.{left_turned}
use Rattle.tw_threads.proofs.workers.WorkerWork.step_aside.Goals as goal

pub returns-clause-left : goal.returns-clause-left
returns-clause-left g c = left_turned c.args.table.now c.args.seat c.step_aside.result.0 c.args.self.now c.step_aside.new.self c.requires c.step_aside.ensures.turned
