use Rattle.std.specs.Vec.Iter.{into_iter_items, into_iter_len}
use Rattle.tw_table.proofs.Joins.{IsJoined}
use Rattle.tw_table.proofs.calls.join_all.Given as goal

abbrev pub invariant-loop-seat : goal.invariant-loop-seat
invariant-loop-seat l = IsJoined l.fn.table l.fn.seats.items l.pass (into_iter_items l.seat-iterator) (into_iter_len l.seat-iterator)
