use Rattle.std.proofs.Common.{slice_get, arith}
use Rattle.tw_ordered.proofs.Events.{first-insert}
use Rattle.tw_queue.proofs.by_router.ByRouter.insert.Goals as goal

pub invariant_of-self-2 : goal.invariant_of-self-2
invariant_of-self-2 c = grind (arith, first-insert, slice_get)
