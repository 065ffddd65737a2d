use Rattle.std.proofs.Common.{◌-◌}
use Rattle.tw_commands.proofs.Pieces.{IsOnTheWay}
use Rattle.tw_commands.proofs.told.ToldRunning.run_to.Given as goal

abbrev pub invariant-loop-end : goal.invariant-loop-end
invariant-loop-end g l = IsOnTheWay l.stop (g.R.Running.run l.initial.self.run) (g.R.Running.run l.self.run)

abbrev pub decreases-loop-end : goal.decreases-loop-end
decreases-loop-end g l = l.stop - l.self.time
