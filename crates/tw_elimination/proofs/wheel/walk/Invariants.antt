use Rattle.std.proofs.Common.{◌≡◌}
use Rattle.tw_instance.specs.Tables.{row}
use Rattle.tw_elimination.specs.Wheel.{after_pivots}
use Rattle.tw_elimination.proofs.wheel.walk.Given as goal

abbrev pub invariant-loop : goal.invariant-loop
invariant-loop l = l.router ≡ after_pivots l.instance (row l.left) l.counter l.initial.router
