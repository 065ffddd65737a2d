use Rattle.std.proofs.Common.{[], ◌∷◌, subst, sym}
use Rattle.std.specs.BinaryHeap.{heap_items}
use Rattle.tw_pending.specs.Order.{AreWith}
use Rattle.tw_pending.specs.Ring.{lists_of, waiting_in}
use Rattle.tw_pending.proofs.All.{more_in_days, more_in_heap}
use Rattle.tw_pending.proofs.calendar.put.Goals as goal

pub returns-then-len-lt-FEW-clause-all : goal.returns-then-len-lt-FEW-clause-all
returns-then-len-lt-FEW-clause-all g c =
    more_in_heap g.E.Ord.cmp (c.args.event ∷ []) (heap_items c.args.heap.now) (heap_items c.push_one.new.heap) (lists_of c.args.ring.now.days.items) c.push_one.ensures.events

pub returns-then-not-keep-clause-all : goal.returns-then-not-keep-clause-all
returns-then-not-keep-clause-all g c =
    let push = c.push_one-then-not-keep in
    let items = heap_items c.args.heap.now in
    subst (λ days. AreWith g.E.Ord.cmp (c.args.event ∷ []) (waiting_in items (lists_of c.args.ring.now.days.items)) (waiting_in (heap_items push.new.heap) days)) (sym c.if-not-keep.ensures.no)
    (more_in_heap g.E.Ord.cmp (c.args.event ∷ []) items (heap_items push.new.heap) (lists_of c.args.ring.now.days.items) push.ensures.events)

pub returns-else-not-keep-clause-all : goal.returns-else-not-keep-clause-all
returns-else-not-keep-clause-all g c =
    more_in_days g.E.Ord.cmp (c.args.event ∷ []) (heap_items c.args.heap.now) (lists_of c.args.ring.now.days.items) (lists_of c.keep.new.ring.days.items) c.if-not-keep.ensures.yes
