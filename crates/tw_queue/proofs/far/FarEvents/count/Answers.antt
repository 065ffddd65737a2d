use Rattle.std.proofs.Common.{arith}
use Rattle.std.proofs.lemmas.List.{get_or_read}
use Rattle.tw_queue.proofs.Fars.{far_found}
use Rattle.tw_ordered.proofs.Places.{count_times}
use Rattle.tw_queue.proofs.far.FarEvents.count.Goals as goal

pub returns-clause-times : goal.returns-clause-times
returns-clause-times c = grind (arith, count_times, get_or_read, far_found)
