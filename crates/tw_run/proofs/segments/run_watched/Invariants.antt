use Rattle.std.proofs.Common.{ℕ, ◌≤◌, ◌-◌}
use Rattle.tw_run.specs.Dealing.{AreDealtAs}
use Rattle.tw_run.proofs.Watching.{IsOnTheWay}
use Rattle.tw_run.proofs.segments.run_watched.Given as goal

-- the watch has seen the checkpoints up to a number, the run is not past the last of them, and its routers are dealt out to all workers
abbrev pub invariant-loop-seen : goal.invariant-loop-seen
invariant-loop-seen g l = (l.seen ≤ l.last) × IsOnTheWay l.every l.seen l.fn.sim l.run l.watch × ((checkpoints : ℕ) × AreDealtAs l.asked checkpoints l.run)

abbrev pub decreases-loop-seen : goal.decreases-loop-seen
decreases-loop-seen g l = l.last - l.seen
