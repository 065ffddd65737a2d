use Rattle.std.proofs.Common.{◌≡◌, ap, sym, ◌∙◌, arith}
use Rattle.std.specs.Ordering.{is_lt}
use Rattle.std.specs.BinaryHeap.{heap_items, heap_len}
use Rattle.std.proofs.lemmas.Bool.{false≢true}
use Rattle.tw_sim.proofs.Counts.{none}
use Rattle.tw_pending.specs.Ring.{lists_of}
use Rattle.tw_pending.proofs.Tops.{heap_alone, sooner_heap, sooner_tick, tick_alone}
use Rattle.tw_pending.proofs.calendar.is_heap_first.Goals as goal

pub returns-in_default-clause-tick : goal.returns-in_default-clause-tick
returns-in_default-clause-tick g c =
    let ring = c.args.ring.now in
    let heap = c.args.heap.now in
    let v = c.in_default.ensures.variant in
    let n : heap_len heap ≡ 0 = none (heap_len heap) (λ h. false≢true (v.1 h)) in
    tick_alone g.E.Ord.cmp g.met.E.Ord.total g.met.E.Timed.exact g.E.Timed.parts.time g.met.E.Timed.timely ring.today ring.waiting c.args.tick.now (heap_items heap) (lists_of ring.days.items)
    c.requires.ring c.requires.due c.first-first.ensures.order (omega (arith, heap.data.ok.0))

pub returns-in_default-first-clause-heap : goal.returns-in_default-first-clause-heap
returns-in_default-first-clause-heap g c =
    let ring = c.args.ring.now in
    let items = heap_items c.args.heap.now in
    let p = c.in-Some.ensures in
    heap_alone g.E.Ord.cmp g.met.E.Ord.total g.met.E.Timed.exact g.E.Timed.parts.time g.met.E.Timed.timely ring.today ring.waiting c.args.tick.now items (lists_of ring.days.items)
    c.requires.ring c.requires.due c.in-Some.top.now p.item.3.0 p.item.1 (p.greatest c.requires.heap) (sym c.in_default-first.is ∙ c.first-first.ensures.first)

pub returns-clause-heap : goal.returns-clause-heap
returns-clause-heap g c =
    let ring = c.args.ring.now in
    let items = heap_items c.args.heap.now in
    let p = c.in-Some.ensures in
    let x = c.in-Some.top.now in
    sooner_heap g.E.Ord.cmp g.met.E.Ord.total g.met.E.Timed.exact g.E.Timed.parts.time g.met.E.Timed.timely ring.today ring.waiting c.args.tick.now items (lists_of ring.days.items)
    c.requires.ring c.requires.due x p.item.3.0 p.item.1 (p.greatest c.requires.heap) c.in-Some-first.first c.first-first.ensures.order (sym c.in-Some-first.is ∙ c.first-first.ensures.first) c.is_lt.result
    (c.is_lt.ensures ∙ ap is_lt c.cmp.ensures)

pub returns-clause-tick : goal.returns-clause-tick
returns-clause-tick g c =
    let ring = c.args.ring.now in
    let items = heap_items c.args.heap.now in
    let p = c.in-Some.ensures in
    let x = c.in-Some.top.now in
    sooner_tick g.E.Ord.cmp g.met.E.Ord.total g.met.E.Timed.exact g.E.Timed.parts.time g.met.E.Timed.timely ring.today ring.waiting c.args.tick.now items (lists_of ring.days.items)
    c.requires.ring c.requires.due x p.item.3.0 p.item.1 (p.greatest c.requires.heap) c.in-Some-first.first c.first-first.ensures.order (sym c.in-Some-first.is ∙ c.first-first.ensures.first) c.is_lt.result
    (c.is_lt.ensures ∙ ap is_lt c.cmp.ensures)
