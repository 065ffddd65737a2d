use Rattle.std.proofs.Common.{arith}
use Rattle.tw_sim.proofs.Ordered.{rising-insert}
use Rattle.tw_ordered.proofs.Events.{event_law}
use Rattle.tw_ordered.proofs.Rows.{put_in}
use Rattle.tw_ordered.proofs.ordered_queue.OrderedQueue.insert.Goals as goal

pub invariant_of-self-2 : goal.invariant_of-self-2
invariant_of-self-2 c = grind (arith, put_in, rising-insert, event_law)

pub returns-clause-ok : goal.returns-clause-ok
returns-clause-ok c = grind (arith, put_in)
