use Rattle.std.proofs.Common.{refl}
use Rattle.tw_ordered.specs.InOrder.{in_order}
use Rattle.tw_queue.proofs.pending.Pending.new.Goals as goal

pub returns-clause-empty : goal.returns-clause-empty
unfolding in_order
returns-clause-empty c = rw (c.in_ok-calendar.ensures, c.in_ok-rest.ensures.empty) refl
