use Rattle.std.proofs.Common.{◌≡◌, replicate}
use Rattle.tw_exchange.proofs.rows.row.Given as goal

abbrev pub invariant-loop : goal.invariant-loop
invariant-loop g l = l.row.items ≡ replicate l.counter l.fn.item
