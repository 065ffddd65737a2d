use Rattle.std.proofs.Common.{length}
use Rattle.tw_handlers.proofs.Shortened.{IsShortened}
use Rattle.tw_handlers.proofs.trail.Trail.undo_to.Given as goal

abbrev pub invariant-loop-self : goal.invariant-loop-self
invariant-loop-self l = IsShortened l.initial.self l.self l.initial.sends.items l.sends.items l.len

abbrev pub decreases-loop-self : goal.decreases-loop-self
decreases-loop-self l = length l.self.events
