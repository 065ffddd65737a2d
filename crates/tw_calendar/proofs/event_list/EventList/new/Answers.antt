use Rattle.std.proofs.Common.{refl}
use Rattle.std.specs.BinaryHeap.{heap_items}
use Rattle.tw_calendar.proofs.Heaps.{no_events}
use Rattle.tw_calendar.proofs.event_list.EventList.new.Goals as goal

pub returns-clause-empty : goal.returns-clause-empty
returns-clause-empty c = rw c.in_ok-calendar.ensures (no_events (heap_items c.new-2.result) (rw c.new-2.ensures.items refl))
