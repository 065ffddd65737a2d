use Rattle.std.proofs.Common.{◌≡◌, ◌++◌, drop, slice_get, ap, ◌∙◌, arith}
use Rattle.std.specs.BinaryHeap.{heap_items}
use Rattle.tw_event.specs.Order.{event_before}
use Rattle.tw_calendar.specs.Heap.{heap_events}
use Rattle.tw_ordered.specs.InOrder.{in_order}
use Rattle.tw_calendar.proofs.Heaps.{heap_taken, homes_heap_less}
use Rattle.tw_calendar.proofs.Merged.{ring_taken, sooner_ring}
use Rattle.tw_calendar.proofs.event_list.EventList.skip_least.Goals as goal

pub returns-then-skip_hand-clause-events : goal.returns-then-skip_hand-clause-events
returns-then-skip_hand-clause-events c =
    let a = c.self.inside in
    let heap = heap_events (heap_items a.heap) in
    let told = c.if-skip_hand.ensures in
    let first = sooner_ring a.calendar heap c.top_time.result told.rising (omega (arith, c.top_time.type_inv)) told.before c.top_time.ensures in
    ap (λ ring. in_order event_before (ring ++ heap)) told.taken ∙ ring_taken a.calendar heap first ∙ ap (λ q. drop 1 q.events) c.self.view_is

pub returns-then-not-is_heap_first-clause-events : goal.returns-then-not-is_heap_first-clause-events
returns-then-not-is_heap_first-clause-events c =
    let a = c.self.inside in
    let heap = heap_events (heap_items a.heap) in
    let same = c.if-skip_hand.ensures.same in
    let first : slice_get (in_order event_before (a.calendar ++ heap)) 0 ≡ slice_get a.calendar 0 = rw same at c.if-not-is_heap_first.ensures.calendar in
    ap (λ ring. in_order event_before (ring ++ heap)) (c.skip_least.ensures ∙ ap (drop 1) same) ∙ ring_taken a.calendar heap first ∙ ap (λ q. drop 1 q.events) c.self.view_is

pub invariant_of-self-2 : goal.invariant_of-self-2
invariant_of-self-2 c =
    let a = c.self.inside in
    let p = c.in-Some.ensures in
    rw (c.go_to.ensures, c.if-skip_hand.ensures.same)
    (((p.heap_order c.self.invariant.0).0, (homes_heap_less a.routers a.calendar c.in-Some.event (heap_items a.heap) (heap_items c.pop.new.self) p.permutation c.self.invariant.1).1))

pub returns-clause-events : goal.returns-clause-events
returns-clause-events c =
    let a = c.self.inside in
    let p = c.in-Some.ensures in
    let same = c.if-skip_hand.ensures.same in
    let first : slice_get (in_order event_before (a.calendar ++ heap_events (heap_items a.heap))) 0 ≡ slice_get (in_order event_before (heap_events (heap_items a.heap))) 0 = rw same at c.if-not-is_heap_first.ensures.heap in
    rw (c.go_to.ensures, same) (heap_taken a.calendar c.in-Some.event (heap_items a.heap) (heap_items c.pop.new.self) p.permutation (p.below_top c.self.invariant.0) first ∙ ap (λ q. drop 1 q.events) c.self.view_is)
