use Rattle.std.proofs.Common.{inr, arith}
use Rattle.std.specs.BinaryHeap.{heap_items}
use Rattle.tw_pending.proofs.Tops.{due_heap, due_tick}
use Rattle.tw_pending.proofs.ring.is_early.Goals as goal

pub returns-then-not-is_over-clause-no : goal.returns-then-not-is_over-clause-no
returns-then-not-is_over-clause-no g c =
    inr (due_tick g.E.Ord.cmp g.met.E.Ord.total g.met.E.Timed.exact g.E.Timed.parts.time c.args.ring.now.today c.args.tick.now (heap_items c.args.heap.now)
    c.requires c.if-not-is_over.ensures.no)

pub returns-then-time-ring-clause-no : goal.returns-then-time-ring-clause-no
returns-then-time-ring-clause-no g c =
    let p = c.in-Some.ensures in
    inr (due_heap g.E.Ord.cmp g.met.E.Ord.total g.met.E.Timed.exact g.E.Timed.parts.time c.args.ring.now.today c.args.tick.now (heap_items c.args.heap.now) c.in-Some.top.now
    p.item.3.0 p.item.1 (omega (arith, c.time.ensures, c.if-time-ring.true)))
