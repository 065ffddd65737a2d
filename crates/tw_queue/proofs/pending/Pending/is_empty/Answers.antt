use Rattle.std.proofs.Common.{arith}
use Rattle.tw_queue.proofs.Halves.{length-both}
use Rattle.tw_queue.proofs.pending.Pending.is_empty.Goals as goal

pub returns : goal.returns
returns c = grind (arith, length-both)
