use Rattle.std.proofs.Common.{◌≡◌, ◌≤◌, ◌<◌, ◌-◌}
use Rattle.tw_seq.specs.Run.{complete_run}
use Rattle.tw_run.proofs.chosen.go_on_alone.Given as goal

-- the run has come to the end of the last lap
abbrev pub invariant-loop-now : goal.invariant-loop-now
invariant-loop-now g l = record {
  run : l.run.run ≡ complete_run l.initial.run.run.case l.now.ticks;
  further : l.fn.alone.ticks < l.now.ticks;
  within : l.now.ticks ≤ l.stop;
}

abbrev pub decreases-loop-now : goal.decreases-loop-now
decreases-loop-now g l = l.stop - l.now.ticks
