use Rattle.std.proofs.Common.{[], slice_get, ap, sym, subst, ◌∙◌}
use Rattle.std.specs.BinaryHeap.{heap_items}
use Rattle.tw_pending.specs.Order.{IsInOrder}
use Rattle.tw_pending.specs.Ring.{waiting_in}
use Rattle.tw_pending.proofs.Counts.{rising}
use Rattle.tw_pending.proofs.Tops.{first_of_heap}
use Rattle.tw_pending.proofs.event_heap.EventHeap.least.Goals as goal

pub returns-clause-first : goal.returns-clause-first
returns-clause-first g c =
    let p = c.in_ok-top.ensures in
    sym (first_of_heap g.E.Ord.cmp g.met.E.Ord.total g.met.E.Timed.exact c.in_ok-top.top.now (heap_items c.self.inside.heap) p.item.3.0 p.item.1 (p.greatest c.self.invariant))
    ∙ ap (λ q. slice_get q 0) c.self.view_is

pub returns-clause-order : goal.returns-clause-order
returns-clause-order g c =
    subst (IsInOrder g.E.Ord.cmp) c.self.view_is (rising g.E.Ord.cmp g.met.E.Ord.total g.met.E.Timed.exact (waiting_in (heap_items c.self.inside.heap) []))
