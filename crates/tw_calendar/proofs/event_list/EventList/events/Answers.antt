use Rattle.std.proofs.Common.{◌-◌, ◌++◌, ap, ◌∙◌, subst, arith}
use Rattle.std.specs.BinaryHeap.{heap_items, heap_len, heap_capacity}
use Rattle.tw_event.specs.Order.{event_before, event_same}
use Rattle.tw_sim.specs.Ordered.{times}
use Rattle.tw_ordered.specs.Queue.{IsQueue}
use Rattle.tw_calendar.specs.Heap.{heap_events}
use Rattle.tw_ordered.proofs.Events.{event_law}
use Rattle.tw_ordered.proofs.Lists.{times-append}
use Rattle.tw_calendar.proofs.Merged.{queue_of_events}
use Rattle.tw_ordered.proofs.Ordered.{in_order-times, insert_all_in_order}
use Rattle.tw_calendar.proofs.event_list.EventList.events.Goals as goal

pub returns-in_err-events-clause-queue : goal.returns-in_err-events-clause-queue
returns-in_err-events-clause-queue c =
    let a = c.self.inside in
    subst IsQueue c.self.view_is (queue_of_events a.routers (heap_capacity a.heap - heap_len a.heap) (a.calendar ++ heap_events (heap_items a.heap)) c.self.invariant.1)

pub returns-in_err-append_to-clause-queue : goal.returns-in_err-append_to-clause-queue
returns-in_err-append_to-clause-queue c =
    let a = c.self.inside in
    subst IsQueue c.self.view_is (queue_of_events a.routers (heap_capacity a.heap - heap_len a.heap) (a.calendar ++ heap_events (heap_items a.heap)) c.self.invariant.1)

pub returns-clause-events : goal.returns-clause-events
returns-clause-events c =
    let a = c.self.inside in
    let heap = heap_events (heap_items a.heap) in
    let from = c.in_ok-events.ensures ∙ ap heap_events c.as_slice.ensures.value in
    let all = c.append_to.new.events.items in
    insert_all_in_order event_before event_same event_law all
    ∙ in_order-times event_before event_same event_law all (a.calendar ++ heap) (λ e.
    let more = c.in_ok-append_to.ensures.ok e in
    let old = ap (times event_same e) from in
    let sum = times-append e a.calendar heap in
    omega arith) ∙ ap (λ q. q.events) c.self.view_is

pub returns-clause-queue : goal.returns-clause-queue
returns-clause-queue c =
    let a = c.self.inside in
    subst IsQueue c.self.view_is (queue_of_events a.routers (heap_capacity a.heap - heap_len a.heap) (a.calendar ++ heap_events (heap_items a.heap)) c.self.invariant.1)
