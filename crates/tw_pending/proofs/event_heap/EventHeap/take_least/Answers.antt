use Rattle.std.proofs.Common.{[], ◌∷◌, drop, slice_get, ap, sym, ◌∙◌}
use Rattle.std.specs.BinaryHeap.{heap_items}
use Rattle.tw_pending.specs.Ring.{waiting_in}
use Rattle.tw_pending.proofs.Counts.{popped, without_first}
use Rattle.tw_pending.proofs.Tops.{among_all, first_popped}
use Rattle.tw_pending.proofs.event_heap.EventHeap.take_least.Goals as goal

pub returns-clause-first : goal.returns-clause-first
returns-clause-first g c =
    let p = c.in_ok-top.ensures in
    sym (first_popped g.E.Ord.cmp g.met.E.Ord.total g.met.E.Timed.exact c.in_ok-top.top (heap_items c.self.inside.heap) (heap_items c.pop.new.self) p.permutation (p.below_top c.self.invariant))
    ∙ ap (λ q. slice_get q 0) c.self.view_is

pub returns-clause-rest : goal.returns-clause-rest
returns-clause-rest g c =
    let p = c.in_ok-top.ensures in
    let x = c.in_ok-top.top in
    let items = heap_items c.self.inside.heap in
    let left = heap_items c.pop.new.self in
    without_first g.E.Ord.cmp g.met.E.Ord.total g.met.E.Timed.exact (waiting_in items []) (waiting_in left []) x.0
    (first_popped g.E.Ord.cmp g.met.E.Ord.total g.met.E.Timed.exact x items left p.permutation (p.below_top c.self.invariant))
    (among_all g.E.Ord.cmp g.met.E.Ord.total g.met.E.Timed.exact (x.0 ∷ []) left items (popped g.E.Ord.cmp x items left p.permutation))
    ∙ ap (drop 1) c.self.view_is
