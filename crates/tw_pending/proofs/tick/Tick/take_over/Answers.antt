use Rattle.std.proofs.Common.{ap, sym, subst, ◌∙◌}
use Rattle.tw_pending.specs.Order.{IsInOrder, in_order}
use Rattle.tw_pending.proofs.Counts.{rising, sorted}
use Rattle.tw_pending.proofs.tick.Tick.take_over.Goals as goal

pub returns-clause-events : goal.returns-clause-events
returns-clause-events g c =
    let s = c.sort_unstable.ensures in
    sorted g.E.Ord.cmp g.met.E.Ord.total g.met.E.Timed.exact c.swap.new.x.items c.sort_unstable.new.self.items s.permutation s.sorted
    ∙ ap (λ v. in_order g.E.Ord.cmp v.items) c.swap.ensures.x_after

pub invariant_of-self : goal.invariant_of-self
invariant_of-self g c =
    let s = c.sort_unstable.ensures in
    subst (IsInOrder g.E.Ord.cmp)
    (sym (sorted g.E.Ord.cmp g.met.E.Ord.total g.met.E.Timed.exact c.swap.new.x.items c.sort_unstable.new.self.items s.permutation s.sorted))
    (rising g.E.Ord.cmp g.met.E.Ord.total g.met.E.Timed.exact c.swap.new.x.items)
