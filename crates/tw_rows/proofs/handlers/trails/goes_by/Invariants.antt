use Rattle.std.proofs.Common.{◌≡◌}
use Rattle.tw_rows.proofs.handlers.trails.goes_by.Given as goal

abbrev pub invariant-loop-line : goal.invariant-loop-line
invariant-loop-line l = l.instance ≡ l.trail.opening.net
