use Rattle.std.proofs.Common.{◌≡◌, ◌≤◌, ◌-◌, false}
use Rattle.tw_parallel.specs.Sim.{GoesOn}
use Rattle.tw_run.specs.Dealing.{AreDealtAs}
use Rattle.tw_run.proofs.segments.run_in_pieces.Given as goal

-- the run has gone on, and not past the time
abbrev pub invariant-loop-end : goal.invariant-loop-end
invariant-loop-end g l = record {
  goes_on : GoesOn l.fn.sim l.run;
  early : l.run.board.stop ≤ l.time;
  dealt : l.asked.rotate ≡ false → AreDealtAs l.asked l.checkpoints l.run;
}

abbrev pub decreases-loop-end : goal.decreases-loop-end
decreases-loop-end g l = l.time - l.run.board.stop
