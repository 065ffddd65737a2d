use Rattle.std.proofs.Common.{arith}
use Rattle.tw_queue.proofs.pending.Pending.keep_by_time.Goals as goal

pub returns : goal.returns
returns c = grind arith
