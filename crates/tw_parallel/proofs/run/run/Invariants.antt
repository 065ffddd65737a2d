use Rattle.std.proofs.Common.{◌≡◌}
use Rattle.tw_parallel.specs.Sim.{GoesOn, HasSameOwners}
use Rattle.tw_parallel.proofs.run.run.Given as goal

abbrev pub invariant-loop : goal.invariant-loop
invariant-loop g l = record {
  goes_on : GoesOn l.fn.sim l.sim;
  owners : HasSameOwners l.fn.sim l.sim;
  stop : l.sim.board.stop ≡ l.fn.sim.board.stop;
}
