use Rattle.std.proofs.Common.{◌≡◌, ◌≤◌, ◌-◌}
use Rattle.tw_run.proofs.chosen.run_to_stop.Given as goal

-- one thread has come so far
abbrev pub invariant-loop-alone : goal.invariant-loop-alone
invariant-loop-alone g l = record {
  case : l.run.run.case ≡ l.case;
  begun : l.run.run.stop ≤ l.alone.ticks;
  ticks : l.alone.ticks ≤ l.asked.report.stop;
}

abbrev pub decreases-loop-alone : goal.decreases-loop-alone
decreases-loop-alone g l = l.asked.report.stop - l.alone.ticks
