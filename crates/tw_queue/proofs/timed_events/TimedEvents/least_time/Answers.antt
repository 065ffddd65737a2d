use Rattle.std.proofs.Common.{arith}
use Rattle.tw_queue.proofs.Times.{least_of_row}
use Rattle.tw_queue.proofs.timed_events.TimedEvents.least_time.Goals as goal

pub returns-in-Some : goal.returns-in-Some
returns-in-Some c = grind (arith, least_of_row)
