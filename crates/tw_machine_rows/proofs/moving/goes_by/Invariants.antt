use Rattle.std.proofs.Common.{◌≡◌}
use Rattle.tw_machine_rows.proofs.moving.goes_by.Given as goal

abbrev pub invariant-loop-next : goal.invariant-loop-next
invariant-loop-next l = l.to.terms.case ≡ l.from.terms.case
