use Rattle.std.proofs.Common.{drop, ap, sym, subst, ◌∙◌}
use Rattle.tw_pending.specs.Order.{IsInOrder}
use Rattle.tw_pending.proofs.Counts.{drop_one, rest_rising}
use Rattle.tw_pending.proofs.tick.Tick.skip.Goals as goal

pub invariant_of-self : goal.invariant_of-self
invariant_of-self g c =
    let a = c.self.inside in
    subst (IsInOrder g.E.Ord.cmp) (sym (drop_one a.taken a.events.items)) (rest_rising g.E.Ord.cmp (drop a.taken a.events.items) c.self.invariant)

pub returns-then-self-len : goal.returns-then-self-len
returns-then-self-len g c =
    let a = c.self.inside in
    drop_one a.taken a.events.items ∙ ap (drop 1) c.self.view_is
