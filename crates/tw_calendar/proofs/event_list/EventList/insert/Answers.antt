use Rattle.std.proofs.Common.{◌≡◌, ◌++◌, ap, sym, ◌∙◌, subst, arith}
use Rattle.std.specs.BinaryHeap.{heap_items}
use Rattle.tw_event.specs.Order.{event_before}
use Rattle.tw_sim.specs.Ordered.{insert}
use Rattle.tw_calendar.specs.Heap.{heap_events}
use Rattle.tw_ordered.specs.InOrder.{in_order}
use Rattle.tw_ordered.specs.Queue.{AreFor}
use Rattle.tw_calendar.proofs.Heaps.{heap_more, homes_heap_more}
use Rattle.tw_calendar.proofs.Merged.{homes_more, ring_more}
use Rattle.tw_calendar.proofs.event_list.EventList.insert.Goals as goal

pub invariant_of-self : goal.invariant_of-self
invariant_of-self c =
    let a = c.self.inside in
    let e = c.args.event.now in
    let n = ap (λ q. q.routers) c.self.view_is in
    let d = c.requires in
    let more : c.insert.new.self ≡ insert event_before e a.calendar = c.if-insert.ensures.added in
    (c.self.invariant.0, homes_more a.routers e a.calendar c.insert.new.self (heap_events (heap_items a.heap)) more (omega arith) c.self.invariant.1)

pub returns-then-insert-clause-ok : goal.returns-then-insert-clause-ok
returns-then-insert-clause-ok c =
    let a = c.self.inside in
    let e = c.args.event.now in
    let more : c.insert.new.self ≡ insert event_before e a.calendar = c.if-insert.ensures.added in
    ring_more e a.calendar c.insert.new.self (heap_events (heap_items a.heap)) more ∙ ap (λ q. insert event_before e q.events) c.self.view_is

pub invariant_of-self-2 : goal.invariant_of-self-2
invariant_of-self-2 c =
    let a = c.self.inside in
    let p = c.in_ok-push.ensures in
    let d = c.requires in
    let n = ap (λ q. q.routers) c.self.view_is in
    let same : c.insert.new.self ≡ a.calendar = c.if-insert.ensures.same in (
      p.heap_order c.self.invariant.0,
      subst (λ ring. AreFor a.routers (ring ++ heap_events (heap_items c.push.new.self))) (sym same)
          (homes_heap_more a.routers a.calendar (record { 0 = c.args.event.now }) (heap_items a.heap) (heap_items c.push.new.self) p.permutation (omega arith) c.self.invariant.1),
    )

pub returns-clause-ok : goal.returns-clause-ok
returns-clause-ok c =
    let a = c.self.inside in
    let e = c.args.event.now in
    let same : c.insert.new.self ≡ a.calendar = c.if-insert.ensures.same in
    ap (λ ring. in_order event_before (ring ++ heap_events (heap_items c.push.new.self))) same
    ∙ heap_more a.calendar (record { 0 = e }) (heap_items a.heap) (heap_items c.push.new.self) c.in_ok-push.ensures.permutation ∙ ap (λ q. insert event_before e q.events) c.self.view_is
