use Rattle.std.proofs.Common.{subst}
use Rattle.tw_pending.specs.Order.{IsInOrder}
use Rattle.tw_pending.proofs.tick.Tick.first.Goals as goal

pub returns-clause-order : goal.returns-clause-order
returns-clause-order g c = subst (IsInOrder g.E.Ord.cmp) c.self.view_is c.self.invariant
