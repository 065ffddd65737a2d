use Rattle.std.proofs.Common.{IsOk, OnOk, Ok, Err, Result, arith}
use Rattle.std.specs.BinaryHeap.{heap_items}
use Rattle.tw_pending.proofs.Counts.{pushed}
use Rattle.tw_pending.proofs.heap.push_one.Goals as goal

held : {T F P : Type 0} (r : Result T F) → IsOk r → OnOk r P → P
held (Ok x) is h = h
held (Err x) is h = absurd (cc)

pub returns : goal.returns
returns g c =
    let ok = c.push.ensures.succeeds (omega (arith, c.requires.room)) in
    let p = c.push.ensures in
    record {
      heap = held _ ok p.heap_order c.requires.heap;
      len = held _ ok p.len;
      capacity = p.capacity;
      events = pushed g.E.Ord.cmp _ (heap_items c.args.heap.now) (heap_items c.push.new.self) (held _ ok p.permutation);
    }
