use Rattle.std.proofs.Common.{◌≡◌, ◌<◌, ◌-◌, ◌++◌, List, Some, slice_get, ap, sym, ◌∙◌, subst, arith}
use Rattle.std.specs.BinaryHeap.{heap_items, heap_len, heap_capacity}
use Rattle.std.specs.Bool.{OnTrue}
use Rattle.tw_event.specs.declared.event.Event.{Event}
use Rattle.tw_event.specs.Order.{event_before}
use Rattle.tw_calendar.specs.Heap.{heap_events}
use Rattle.tw_ordered.specs.InOrder.{in_order}
use Rattle.tw_ordered.specs.Queue.{IsQueue}
use Rattle.tw_calendar.specs.declared.event_list.EventList.TheInside.{Inside}
use Rattle.tw_calendar.proofs.Merged.{home_first, queue_of_events, sooner_ring}
use Rattle.tw_ordered.proofs.Released.{no_first_nothing}
use Rattle.tw_ordered.proofs.Told.{on_false, on_true}
use Rattle.tw_calendar.proofs.event_list.EventList.copy_least.Goals as goal

-- all events, in no order
abbrev all : Inside → List Event
all a = a.calendar ++ heap_events (heap_items a.heap)

from_hand : (c : goal.Then-copy_hand) → Some c.copy_hand.new.event ≡ slice_get (in_order event_before (all c.self.inside)) 0
from_hand c =
    let a = c.self.inside in
    let told = c.if-copy_hand.ensures in
    told.some ∙ sym (sooner_ring a.calendar (heap_events (heap_items a.heap)) c.top_time.result told.rising (omega (arith, c.top_time.type_inv)) told.before c.top_time.ensures)

pub returns-then-copy_hand-clause-some : goal.returns-then-copy_hand-clause-some
returns-then-copy_hand-clause-some c = from_hand c ∙ ap (λ q. slice_get q.events 0) c.self.view_is

pub returns-then-copy_hand-clause-home : goal.returns-then-copy_hand-clause-home
returns-then-copy_hand-clause-home c =
    subst (λ q. c.copy_hand.new.event.dst < q.routers) c.self.view_is (home_first c.self.inside.routers (all c.self.inside) c.copy_hand.new.event c.self.invariant.1 (sym (from_hand c)))

pub returns-then-copy_hand-clause-queue : goal.returns-then-copy_hand-clause-queue
returns-then-copy_hand-clause-queue c =
    let a = c.self.inside in
    subst IsQueue c.self.view_is (queue_of_events a.routers (heap_capacity a.heap - heap_len a.heap) (all a) c.self.invariant.1)

pub returns-clause-home : goal.returns-clause-home
returns-clause-home c =
    subst (λ q. OnTrue c.copy_first.result (c.copy_first.new.event.dst < q.routers)) c.self.view_is
    (on_true c.copy_first.result (λ k. home_first c.self.inside.routers (all c.self.inside) c.copy_first.new.event c.self.invariant.1 (sym k)) c.copy_first.ensures.some)

pub returns-clause-empty : goal.returns-clause-empty
returns-clause-empty c =
    on_false c.copy_first.result (λ k. ap (λ q. q.events) (sym c.self.view_is) ∙ no_first_nothing (in_order event_before (all c.self.inside)) k) c.copy_first.ensures.beyond

pub returns-clause-queue : goal.returns-clause-queue
returns-clause-queue c =
    let a = c.self.inside in
    subst IsQueue c.self.view_is (queue_of_events a.routers (heap_capacity a.heap - heap_len a.heap) (all a) c.self.invariant.1)
