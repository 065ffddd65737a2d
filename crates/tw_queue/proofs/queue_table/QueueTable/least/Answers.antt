use Rattle.std.proofs.Common.{arith, slice_get}
use Rattle.tw_queue.proofs.Tables.{no_row, read_first}
use Rattle.tw_queue.proofs.queue_table.QueueTable.least.Goals as goal

pub returns-in_err-router : goal.returns-in_err-router
returns-in_err-router c = grind (arith, no_row, slice_get)

pub returns : goal.returns
returns c = grind (arith, read_first, slice_get)
