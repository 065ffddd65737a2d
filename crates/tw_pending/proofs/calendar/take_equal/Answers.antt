use Rattle.std.proofs.Common.{◌++◌, [], ◌∷◌, sym, subst}
use Rattle.std.specs.BinaryHeap.{heap_items}
use Rattle.tw_pending.specs.Order.{AreWith}
use Rattle.tw_pending.specs.Ring.{lists_of, waiting_in}
use Rattle.tw_pending.proofs.All.{more_in_days, more_in_heap}
use Rattle.tw_pending.proofs.Removed.{less_in_rest, less_in_tick, nowhere, on_false, on_true}
use Rattle.tw_pending.proofs.calendar.take_equal.Goals as goal

pub returns-then-remove-clause-begun : goal.returns-then-remove-clause-begun
returns-then-remove-clause-begun g c = c.if-remove.ensures.begun c.args.ring.now.today c.requires.begun

pub returns-then-remove-clause-yes : goal.returns-then-remove-clause-yes
returns-then-remove-clause-yes g c =
    less_in_tick g.E.Ord.cmp (c.args.event.now ∷ []) c.args.tick.now c.remove.new.self (waiting_in (heap_items c.args.heap.now) (lists_of c.args.ring.now.days.items)) c.if-remove.ensures.yes

pub returns-then-let_go-clause-yes : goal.returns-then-let_go-clause-yes
returns-then-let_go-clause-yes g c =
    let e = c.args.event.now in
    let items = heap_items c.args.heap.now in
    let days = lists_of c.args.ring.now.days.items in
    let left = lists_of c.let_go.new.ring.days.items in
    subst (λ tick. AreWith g.E.Ord.cmp (e ∷ []) (tick ++ waiting_in items left) (c.args.tick.now ++ waiting_in items days)) (sym c.if-remove.ensures.no)
    (less_in_rest g.E.Ord.cmp (e ∷ []) c.args.tick.now (waiting_in items days) (waiting_in items left) (more_in_days g.E.Ord.cmp (e ∷ []) items left days c.if-let_go.ensures.yes))

pub returns-clause-yes : goal.returns-clause-yes
returns-clause-yes g c =
    on_true c.remove_one.result (λ h.
    let e = c.args.event.now in
    let items = heap_items c.args.heap.now in
    let new = heap_items c.remove_one.new.heap in
    let days = lists_of c.args.ring.now.days.items in
    subst (λ tick. AreWith g.E.Ord.cmp (e ∷ []) (tick ++ waiting_in new (lists_of c.let_go.new.ring.days.items)) (c.args.tick.now ++ waiting_in items days)) (sym c.if-remove.ensures.no)
    (subst (λ left. AreWith g.E.Ord.cmp (e ∷ []) (c.args.tick.now ++ waiting_in new left) (c.args.tick.now ++ waiting_in items days)) (sym c.if-let_go.ensures.no)
    (less_in_rest g.E.Ord.cmp (e ∷ []) c.args.tick.now (waiting_in items days) (waiting_in new days) (more_in_heap g.E.Ord.cmp (e ∷ []) new items days h)))) c.remove_one.ensures.yes

pub returns-clause-none : goal.returns-clause-none
returns-clause-none g c =
    on_false c.remove_one.result (λ h.
    nowhere g.E.Ord.cmp c.args.event.now c.args.tick.now (heap_items c.args.heap.now) (lists_of c.args.ring.now.days.items) c.if-remove.ensures.none h c.if-let_go.ensures.none) c.remove_one.ensures.none
