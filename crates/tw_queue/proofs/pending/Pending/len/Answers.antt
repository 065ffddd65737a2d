use Rattle.std.proofs.Common.{arith, subst}
use Rattle.tw_queue.specs.Pending.{room_of}
use Rattle.tw_ordered.specs.Queue.{IsQueue}
use Rattle.tw_queue.proofs.Halves.{length-both, queue_of_both}
use Rattle.tw_queue.proofs.pending.Pending.len.Goals as goal

pub returns-clause-len : goal.returns-clause-len
returns-clause-len c = grind (arith, length-both)

pub returns-clause-queue : goal.returns-clause-queue
returns-clause-queue c =
    let a = c.self.inside in
    subst IsQueue c.self.view_is (queue_of_both a.rest.routers (room_of a) a.calendar a.rest.events c.self.invariant.homes c.len.ensures.queue.homes)
