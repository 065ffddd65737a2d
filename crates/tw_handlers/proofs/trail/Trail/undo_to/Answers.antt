use Rattle.std.proofs.Common.{arith}
use Rattle.tw_handlers.proofs.Shortened.{IsShortened-more, IsShortened-none, shortened-sends}
use Rattle.tw_handlers.proofs.trail.Trail.undo_to.Goals as goal

pub loop-self-init : goal.loop-self-init
loop-self-init c = IsShortened-none c.args.self.now c.args.sends.now.items c.args.len

pub loop-self-preserved : goal.loop-self-preserved
loop-self-preserved c =
    IsShortened-more c.args.self.now c.loop-self.self c.undo_last.new.self c.args.sends.now.items c.loop-self.sends.items c.undo_last.new.sends.items c.args.len
    c.loop-self.invariant (omega arith) c.in_ok-undo_last.ensures.ok c.in_ok-undo_last.ensures.sends

pub returns-clause-sends : goal.returns-clause-sends
returns-clause-sends c =
    shortened-sends c.args.self.now c.loop-self.self c.args.sends.now.items c.loop-self.sends.items c.args.len c.loop-self.invariant (omega arith)
