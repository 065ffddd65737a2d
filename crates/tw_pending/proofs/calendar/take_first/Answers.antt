use Rattle.std.proofs.Common.{◌++◌, ap, sym, ◌∙◌, arith}
use Rattle.std.specs.BinaryHeap.{heap_items}
use Rattle.tw_pending.specs.Ring.{all_in, lists_of, waiting_in}
use Rattle.tw_pending.proofs.Counts.{popped, without_first}
use Rattle.tw_pending.proofs.Tops.{begun_rest, popped_all, skipped_first, top_at}
use Rattle.tw_pending.proofs.calendar.take_first.Goals as goal

pub returns-then-not-is_heap_first-clause-first : goal.returns-then-not-is_heap_first-clause-first
returns-then-not-is_heap_first-clause-first g c = c.first-first.ensures.first ∙ sym c.if-not-is_heap_first.ensures.tick

pub returns-then-not-is_heap_first-clause-rest : goal.returns-then-not-is_heap_first-clause-rest
returns-then-not-is_heap_first-clause-rest g c =
    let days = lists_of c.args.ring.now.days.items in
    let items = heap_items c.args.heap.now in
    ap (λ t. all_in g.E.Ord.cmp t items days) c.skip.ensures
    ∙ skipped_first g.E.Ord.cmp g.met.E.Ord.total g.met.E.Timed.exact c.args.tick.now items days c.if-not-is_heap_first.ensures.tick

pub returns-then-not-is_heap_first-clause-begun : goal.returns-then-not-is_heap_first-clause-begun
returns-then-not-is_heap_first-clause-begun g c = begun_rest _ c.args.tick.now c.skip.new.self c.skip.ensures c.requires.begun

pub returns-clause-first : goal.returns-clause-first
returns-clause-first g c =
    let p = c.in_ok-top.ensures in
    let items = heap_items c.args.heap.now in
    sym (c.if-not-is_heap_first.ensures.heap ∙ top_at c.in_ok-top.top items (omega (arith, c.if-not-is_heap_first.ensures.some, c.args.heap.now.data.ok.0)) p.top)

pub returns-clause-rest : goal.returns-clause-rest
returns-clause-rest g c =
    let p = c.in_ok-top.ensures in
    let days = lists_of c.args.ring.now.days.items in
    let items = heap_items c.args.heap.now in
    let left = heap_items c.pop.new.self in
    let x = c.in_ok-top.top in
    let first = c.if-not-is_heap_first.ensures.heap ∙ top_at x items (omega (arith, c.if-not-is_heap_first.ensures.some, c.args.heap.now.data.ok.0)) p.top in
    without_first g.E.Ord.cmp g.met.E.Ord.total g.met.E.Timed.exact (c.args.tick.now ++ waiting_in items days) (c.args.tick.now ++ waiting_in left days) x.0 first
    (popped_all g.E.Ord.cmp g.met.E.Ord.total g.met.E.Timed.exact c.args.tick.now items left days x.0 (popped g.E.Ord.cmp x items left p.permutation))
