use Rattle.std.proofs.Common.{◌≡◌, [], replicate}
use Rattle.tw_instance.specs.Tables.{items}
use Rattle.tw_instance.proofs.tables.empty_rows.Given as goal

abbrev pub invariant-loop : goal.invariant-loop
invariant-loop g l = items l.rows.items ≡ replicate l.counter []
