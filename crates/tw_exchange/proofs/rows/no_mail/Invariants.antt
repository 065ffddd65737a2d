use Rattle.std.proofs.Common.{◌≡◌, [], replicate}
use Rattle.tw_exchange.specs.Rows.{items}
use Rattle.tw_exchange.proofs.rows.no_mail.Given as goal

abbrev pub invariant-loop : goal.invariant-loop
invariant-loop g l = items l.mail.items ≡ replicate l.counter []
