use Rattle.std.proofs.Common.{length}
use Rattle.tw_engine.proofs.Undoing.{IsRolling}
use Rattle.tw_process.specs.Behaviour.{simulation_of}
use Rattle.tw_engine.proofs.logical.LogicalProcess.undo_all.Given as goal

-- it is rolled back as far as this
abbrev pub invariant-loop-reach : goal.invariant-loop-reach
invariant-loop-reach g l = IsRolling (simulation_of g.M.Event.Timed.parts g.M.Event.Ord.cmp (g.M.ProcessModel.behaviour l.fn.self.model)) l.reach l.fn.self l.self

abbrev pub decreases-loop-reach : goal.decreases-loop-reach
decreases-loop-reach g l = length l.self.ahead
