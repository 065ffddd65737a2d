use Rattle.std.proofs.Common.{min, arith}
use Rattle.std.proofs.lemmas.Bool.{false≢true}
use Rattle.tw_sim.proofs.Ordered.{length-insert}
use Rattle.tw_queue.proofs.Halves.{first_time-insert, homes_insert, right_more}
use Rattle.tw_calendar.proofs.Merged.{ring_more}
use Rattle.tw_queue.proofs.pending.Pending.insert.Goals as goal

pub invariant_of-self : goal.invariant_of-self
invariant_of-self c = grind (arith, length-insert, homes_insert, false≢true)

pub returns-then-insert_by_time-clause-ok : goal.returns-then-insert_by_time-clause-ok
returns-then-insert_by_time-clause-ok c = grind (arith, ring_more)

pub invariant_of-self-2 : goal.invariant_of-self-2
invariant_of-self-2 c = grind (arith, length-insert, min, first_time-insert)

pub returns-clause-ok : goal.returns-clause-ok
returns-clause-ok c = grind (arith, right_more)
