use Rattle.std.proofs.Common.{◌++◌, ◌∷◌, [], ap, sym, subst, ◌∙◌}
use Rattle.std.specs.BinaryHeap.{IsHeap, heap_items}
use Rattle.tw_sim.specs.Ordered.{insert}
use Rattle.tw_pending.specs.Order.{is_before, reversed}
use Rattle.tw_pending.specs.Ring.{IsDue, all_in, events_of, lists_of}
use Rattle.tw_pending.proofs.All.{all_more}
use Rattle.tw_pending.proofs.pending.Pending.insert.Goals as goal

pub invariant_of-self : goal.invariant_of-self
invariant_of-self g c =
    let a = c.self.inside in
    let v = c.self.invariant in
    let r = c.in_err-reserve.ensures in (
      subst (IsHeap (reversed g.E.Ord.cmp)) (sym r.items) v.0,
      v.1,
      v.2,
      subst (λ items. IsDue g.E.Timed.parts.time a.ring.today g.E.Ord.cmp a.ring.waiting (a.tick ++ events_of items)) (sym r.items) v.3,
    )

pub returns-clause-ok : goal.returns-clause-ok
returns-clause-ok g c =
    let a = c.self.inside in
    let days = lists_of a.ring.days.items in
    all_more g.E.Ord.cmp g.met.E.Ord.total g.met.E.Timed.exact (c.args.event ∷ []) a.tick c.go_on.new.tick (heap_items c.reserve.new.self) (heap_items c.put.new.heap) days
    (lists_of c.put.new.ring.days.items) (lists_of c.go_on.new.ring.days.items) c.put.ensures.all c.go_on.ensures.all
    ∙ ap (insert (is_before g.E.Ord.cmp) c.args.event) (ap (λ items. all_in g.E.Ord.cmp a.tick items days) c.in_ok-reserve.ensures.items ∙ c.self.view_is)
