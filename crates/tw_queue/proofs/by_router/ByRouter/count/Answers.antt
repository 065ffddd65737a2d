use Rattle.std.proofs.Common.{arith, count_by}
use Rattle.tw_ordered.proofs.Places.{count_times, equals}
use Rattle.tw_ordered.proofs.Spares.{times_whole}
use Rattle.tw_queue.proofs.by_router.ByRouter.count.Goals as goal

pub returns : goal.returns
returns c = grind (arith, count_by, equals, count_times, times_whole)
