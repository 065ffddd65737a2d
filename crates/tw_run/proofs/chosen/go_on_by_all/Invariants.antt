use Rattle.std.proofs.Common.{◌≤◌, ◌-◌}
use Rattle.tw_run.specs.Ran.{HasComeTo}
use Rattle.tw_run.proofs.chosen.go_on_by_all.Given as goal

-- the workers have come to the end of the last stretch
abbrev pub invariant-loop-end : goal.invariant-loop-end
invariant-loop-end g l = record {
  come : HasComeTo l.course.ticks l.fn.sim.case l.asked l.run;
  later : l.fn.course.ticks ≤ l.course.ticks;
  ticks : l.course.ticks ≤ l.asked.report.stop;
}

abbrev pub decreases-loop-end : goal.decreases-loop-end
decreases-loop-end g l = l.asked.report.stop - l.course.ticks
