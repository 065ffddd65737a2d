use Rattle.std.proofs.Common.{◌≡◌}
use Rattle.tw_rows.proofs.held.goes_by.Given as goal

abbrev pub invariant-loop-line : goal.invariant-loop-line
invariant-loop-line l = l.held.routers ≡ 3
