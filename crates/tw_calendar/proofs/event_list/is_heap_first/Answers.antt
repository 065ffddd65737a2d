use Rattle.std.proofs.Common.{◌≡◌, ◌≤◌, true, nat_lt, arith}
use Rattle.std.specs.BinaryHeap.{heap_items, heap_len}
use Rattle.std.proofs.lemmas.Bool.{false≢true}
use Rattle.tw_sim.proofs.Counts.{none}
use Rattle.tw_calendar.specs.Heap.{heap_events}
use Rattle.tw_ordered.specs.Times.{first_time, never}
use Rattle.tw_calendar.proofs.Heaps.{first_of_heap, empty_heap}
use Rattle.tw_calendar.proofs.Merged.{first_by_time, heap_told, none_by_time, ring_alone, ring_told, sooner_by_time}
use Rattle.tw_calendar.proofs.event_list.is_heap_first.Goals as goal

pub returns-in_default-clause-calendar : goal.returns-in_default-clause-calendar
returns-in_default-clause-calendar c =
    let heap = c.args.heap.now in
    let v = c.in_default.ensures.variant in
    let n : heap_len heap ≡ 0 = none (heap_len heap) (λ h. false≢true (v.1 h)) in
    ring_alone c.args.calendar.now (heap_events (heap_items heap)) (empty_heap (heap_items heap) (omega (arith, heap.data.ok.0))) c.soonest-soonest.ensures.rising

pub returns-then-top-time-clause-heap : goal.returns-then-top-time-clause-heap
returns-then-top-time-clause-heap c =
    let items = heap_items c.args.heap.now in
    let ring = c.args.calendar.now in
    let y = c.in-Some.top.now in
    let p = c.in-Some.ensures in
    let top = first_of_heap y items p.item.3.0 p.item.1 (p.greatest c.requires) in
    let differ : y.0.time ≡ first_time ring → ⊥ = rw c.least_time-time.ensures at c.if-top-time.true in
    rw c.least_time-time.ensures (heap_told y.0 ring (heap_events items) c.soonest-soonest.ensures.rising top (nat_lt y.0.time (first_time ring)) (first_by_time y.0 ring differ))

pub returns-then-top-time-clause-calendar : goal.returns-then-top-time-clause-calendar
returns-then-top-time-clause-calendar c =
    let items = heap_items c.args.heap.now in
    let ring = c.args.calendar.now in
    let y = c.in-Some.top.now in
    let p = c.in-Some.ensures in
    let top = first_of_heap y items p.item.3.0 p.item.1 (p.greatest c.requires) in
    let differ : y.0.time ≡ first_time ring → ⊥ = rw c.least_time-time.ensures at c.if-top-time.true in
    let in_time : y.0.time ≤ never = omega arith in
    rw c.least_time-time.ensures
    (ring_told y.0 ring (heap_events items) c.soonest-soonest.ensures.rising top (nat_lt y.0.time (first_time ring)) (first_by_time y.0 ring differ) (none_by_time y.0 ring in_time differ))

pub returns-clause-heap : goal.returns-clause-heap
returns-clause-heap c =
    let items = heap_items c.args.heap.now in
    let y = c.in-Some.top.now in
    let p = c.in-Some.ensures in
    let top = first_of_heap y items p.item.3.0 p.item.1 (p.greatest c.requires) in
    let told = c.comes_before_all.ensures in
    heap_told y.0 c.args.calendar.now (heap_events items) c.soonest-soonest.ensures.rising top c.comes_before_all.result told.first

pub returns-clause-calendar : goal.returns-clause-calendar
returns-clause-calendar c =
    let items = heap_items c.args.heap.now in
    let y = c.in-Some.top.now in
    let p = c.in-Some.ensures in
    let top = first_of_heap y items p.item.3.0 p.item.1 (p.greatest c.requires) in
    let told = c.comes_before_all.ensures in
    ring_told y.0 c.args.calendar.now (heap_events items) c.soonest-soonest.ensures.rising top c.comes_before_all.result told.first told.none

pub returns-then-top-soonest-clause-heap : goal.returns-then-top-soonest-clause-heap
returns-then-top-soonest-clause-heap c =
    let items = heap_items c.args.heap.now in
    let calendar = c.args.calendar.now in
    let y = c.in-Some.top.now in
    let p = c.in-Some.ensures in
    let top = first_of_heap y items p.item.3.0 p.item.1 (p.greatest c.requires) in
    heap_told y.0 calendar (heap_events items) c.soonest-soonest.ensures.rising top true (sooner_by_time y.0 calendar c.soonest-soonest.result c.if-top-soonest.true c.soonest-soonest.ensures.soonest)
