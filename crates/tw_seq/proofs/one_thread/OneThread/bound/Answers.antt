use Rattle.std.proofs.Common.{ap, ◌∙◌}
use Rattle.tw_seq.proofs.Going.{bound_first, bound_over}
use Rattle.tw_seq.proofs.one_thread.OneThread.bound.Goals as goal

pub returns-then-copy_next : goal.returns-then-copy_next
returns-then-copy_next c = bound_first c.args.self.now c.copy_next.new.event c.if-copy_next.ensures.begun c.if-copy_next.ensures.some

pub returns : goal.returns
returns c = ap (λ run. run.stop) c.self.view_is ∙ bound_over c.args.self.now c.if-copy_next.ensures.begun c.if-copy_next.ensures.none
