use Rattle.std.specs.BinaryHeap.{heap_items}
use Rattle.tw_calendar.specs.Heap.{heap_events}
use Rattle.tw_calendar.proofs.Heaps.{first_of_heap}
use Rattle.tw_ordered.proofs.Events.{least_is, not_earlier}
use Rattle.tw_calendar.proofs.event_list.top_time.Goals as goal

pub returns-in-Some : goal.returns-in-Some
returns-in-Some c e there =
    let items = heap_items c.args.heap.now in
    let y = c.in-Some.top.now in
    let p = c.in-Some.ensures in
    let top = first_of_heap y items p.item.3.0 p.item.1 (p.greatest c.requires) in
    not_earlier e y.0 ((least_is y.0 (heap_events items) top).first e there)
