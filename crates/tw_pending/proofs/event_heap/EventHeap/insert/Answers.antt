use Rattle.std.proofs.Common.{[], ◌∷◌, ap, ◌∙◌}
use Rattle.std.specs.BinaryHeap.{heap_items}
use Rattle.tw_sim.specs.Ordered.{insert}
use Rattle.tw_pending.specs.Order.{is_before}
use Rattle.tw_pending.specs.Ring.{all_in, waiting_in}
use Rattle.tw_pending.proofs.Counts.{more_in_order}
use Rattle.tw_pending.proofs.Tops.{among_all}
use Rattle.tw_pending.proofs.event_heap.EventHeap.insert.Goals as goal

pub returns-clause-ok : goal.returns-clause-ok
returns-clause-ok g c =
    let a = c.self.inside in
    let reserved = heap_items c.reserve.new.self in
    let new = heap_items c.push_one.new.heap in
    more_in_order g.E.Ord.cmp g.met.E.Ord.total g.met.E.Timed.exact (c.args.event ∷ []) (waiting_in reserved []) (waiting_in new [])
    (among_all g.E.Ord.cmp g.met.E.Ord.total g.met.E.Timed.exact (c.args.event ∷ []) reserved new c.push_one.ensures.events)
    ∙ ap (insert (is_before g.E.Ord.cmp) c.args.event) (ap (λ items. all_in g.E.Ord.cmp [] items []) c.in_ok-reserve.ensures.items ∙ c.self.view_is)
