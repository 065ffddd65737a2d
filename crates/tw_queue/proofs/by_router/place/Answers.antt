use Rattle.std.proofs.Common.{arith}
use Rattle.tw_sim.proofs.Ordered.{length-insert}
use Rattle.tw_ordered.proofs.Spares.{insert_all_in, insert_all_more}
use Rattle.tw_queue.proofs.by_router.place.Goals as goal

pub returns-then-insert-clause-ok : goal.returns-then-insert-clause-ok
returns-then-insert-clause-ok c =
    insert_all_in c.args.event c.args.spare.now.items c.args.table.now.events c.insert.new.self.events c.if-insert.ensures.added

pub returns-then-insert-clause-len : goal.returns-then-insert-clause-len
returns-then-insert-clause-len c = grind (arith, length-insert)

pub returns-clause-ok : goal.returns-clause-ok
returns-clause-ok c = grind (arith, insert_all_more)
