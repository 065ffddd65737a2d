use Rattle.std.proofs.Common.{arith}
use Rattle.tw_queue.proofs.Halves.{first_time-take_out}
use Rattle.tw_queue.proofs.merged.remove_from.Goals as goal

pub returns-else-event-rest_time-clause-time : goal.returns-else-event-rest_time-clause-time
returns-else-event-rest_time-clause-time c = grind (arith, first_time-take_out)
