use Rattle.std.proofs.Common.{arith, subst}
use Rattle.tw_sim.proofs.Ordered.{length-insert_all}
use Rattle.tw_queue.specs.ByRouter.{room_of}
use Rattle.tw_ordered.specs.Queue.{IsQueue}
use Rattle.tw_queue.proofs.Wholes.{whole_queue}
use Rattle.tw_queue.proofs.by_router.ByRouter.len.Goals as goal

pub returns-clause-len : goal.returns-clause-len
returns-clause-len c = grind (arith, length-insert_all)

pub returns-clause-queue : goal.returns-clause-queue
returns-clause-queue c =
    let a = c.self.inside in
    let v = c.self.invariant in
    subst IsQueue c.self.view_is (whole_queue a.routers (room_of a) a.table a.spare.items v.routers v.table v.spare)
