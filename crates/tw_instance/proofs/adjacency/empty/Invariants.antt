use Rattle.std.proofs.Common.{◌≡◌, false, replicate}
use Rattle.tw_instance.specs.Tables.{items}
use Rattle.tw_instance.proofs.adjacency.empty.Given as goal

abbrev pub invariant-loop : goal.invariant-loop
invariant-loop l = items l.rows.items ≡ replicate l.counter (replicate l.count false)
