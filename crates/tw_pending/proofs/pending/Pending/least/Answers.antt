use Rattle.std.proofs.Common.{◌++◌, slice_get, ap, sym, ◌∙◌, subst}
use Rattle.std.specs.BinaryHeap.{heap_items}
use Rattle.tw_pending.specs.Order.{IsInOrder}
use Rattle.tw_pending.specs.Ring.{lists_of, waiting_in}
use Rattle.tw_pending.proofs.Counts.{rising}
use Rattle.tw_pending.proofs.Tops.{top_at}
use Rattle.tw_pending.proofs.pending.Pending.least.Goals as goal

pub returns-then-not-is_heap_first-clause-first : goal.returns-then-not-is_heap_first-clause-first
returns-then-not-is_heap_first-clause-first g c =
    c.first.ensures.first ∙ (sym c.if-not-is_heap_first.ensures.tick ∙ ap (λ q. slice_get q 0) c.self.view_is)

pub returns-then-not-is_heap_first-clause-order : goal.returns-then-not-is_heap_first-clause-order
returns-then-not-is_heap_first-clause-order g c =
    let a = c.self.inside in
    subst (IsInOrder g.E.Ord.cmp) c.self.view_is
    (rising g.E.Ord.cmp g.met.E.Ord.total g.met.E.Timed.exact (a.tick ++ waiting_in (heap_items a.heap) (lists_of a.ring.days.items)))

pub returns-clause-first : goal.returns-clause-first
returns-clause-first g c =
    let a = c.self.inside in
    let p = c.in_ok-top.ensures in
    sym (top_at c.in_ok-top.top.now (heap_items a.heap) p.item.3.0 p.item.1) ∙ (sym c.if-not-is_heap_first.ensures.heap ∙ ap (λ q. slice_get q 0) c.self.view_is)

pub returns-clause-order : goal.returns-clause-order
returns-clause-order g c =
    let a = c.self.inside in
    subst (IsInOrder g.E.Ord.cmp) c.self.view_is
    (rising g.E.Ord.cmp g.met.E.Ord.total g.met.E.Timed.exact (a.tick ++ waiting_in (heap_items a.heap) (lists_of a.ring.days.items)))
