use Rattle.std.proofs.Common.{◌≡◌, ◌+◌, ◌≤◌, drop, length}
use Rattle.std.specs.BinaryHeap.{IsHeap, heap_capacity, heap_items, heap_len}
use Rattle.tw_pending.specs.Order.{count, reversed}
use Rattle.tw_pending.specs.Ring.{IsRing, lists_of, waiting_in}
use Rattle.tw_pending.proofs.calendar.put_each.Given as goal

-- what is left goes in, and has room
abbrev pub invariant-loop-event : goal.invariant-loop-event
invariant-loop-event g l = record {
  ring : IsRing g.E.Timed.parts.time l.ring.today l.ring.waiting (lists_of l.ring.days.items);
  today : l.ring.today ≡ l.fn.ring.today;
  heap : IsHeap (reversed g.E.Ord.cmp) (heap_items l.heap);
  room : heap_len l.heap + length l.events ≤ heap_capacity l.heap + l.event-index;
  all : (e : g.row.E.Denot) → count g.E.Ord.cmp e (drop l.event-index l.events) + count g.E.Ord.cmp e (waiting_in (heap_items l.heap) (lists_of l.ring.days.items))
      ≡ count g.E.Ord.cmp e l.events + count g.E.Ord.cmp e (waiting_in (heap_items l.fn.heap) (lists_of l.fn.ring.days.items));
}
