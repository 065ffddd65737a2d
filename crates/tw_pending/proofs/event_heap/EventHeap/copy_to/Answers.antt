use Rattle.std.proofs.Common.{◌≡◌, ◌++◌, ap, subst, ◌∙◌}
use Rattle.std.specs.BinaryHeap.{heap_items}
use Rattle.tw_pending.specs.Order.{AreWith}
use Rattle.tw_pending.specs.Ring.{events_of}
use Rattle.tw_pending.proofs.Copied.{heap_behind}
use Rattle.tw_pending.proofs.event_heap.EventHeap.copy_to.Goals as goal

pub returns-clause-ok : goal.returns-clause-ok
returns-clause-ok g c =
    let items = heap_items c.self.inside.heap in
    let old = c.args.events.now.items in
    let new : c.copy_items.new.events.items ≡ old ++ events_of items =
    c.copy_items.ensures.items ∙ (ap (λ xs. xs ++ events_of c.as_slice.result.now) c.in_ok-reserve.ensures.items ∙ ap (λ xs. old ++ events_of xs) c.as_slice.ensures.value) in
    subst (λ waits. AreWith g.E.Ord.cmp waits old c.copy_items.new.events.items) c.self.view_is (heap_behind g.E.Ord.cmp items old c.copy_items.new.events.items new)
