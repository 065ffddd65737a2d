use Rattle.std.proofs.Common.{◌≡◌, sym, arith}
use Rattle.std.specs.BinaryHeap.{heap_items, heap_len}
use Rattle.std.proofs.lemmas.Bool.{false≢true}
use Rattle.tw_sim.proofs.Counts.{none}
use Rattle.tw_calendar.proofs.Heaps.{first_of_heap}
use Rattle.tw_ordered.proofs.Released.{no_length}
use Rattle.tw_calendar.proofs.event_list.copy_top.Goals as goal

pub returns-in_default-clause-beyond : goal.returns-in_default-clause-beyond
returns-in_default-clause-beyond c =
    let heap = c.args.heap.now in
    let v = c.in_default.ensures.variant in
    let n : heap_len heap ≡ 0 = none (heap_len heap) (λ h. false≢true (v.1 h)) in
    no_length (heap_items heap) (omega (arith, heap.data.ok.0))

pub returns-clause-some : goal.returns-clause-some
returns-clause-some c =
    let p = c.in-Some.ensures in
    sym (first_of_heap c.in-Some.top.now (heap_items c.args.heap.now) p.item.3.0 p.item.1 (p.greatest c.requires))
