use Rattle.std.proofs.Common.{[], nat_lt, ap, ◌∙◌}
use Rattle.std.specs.BinaryHeap.{heap_items}
use Rattle.tw_sim.specs.Ordered.{take_out}
use Rattle.tw_pending.specs.Order.{count, is_same}
use Rattle.tw_pending.specs.Ring.{all_in}
use Rattle.tw_pending.proofs.Removed.{heap_rest, heap_value, on_false}
use Rattle.tw_pending.proofs.event_heap.EventHeap.remove.Goals as goal

pub returns-clause-value : goal.returns-clause-value
returns-clause-value g c =
    let r = c.remove_one in
    heap_value g.E.Ord.cmp g.met.E.Ord.total g.met.E.Timed.exact c.args.event.now (heap_items c.self.inside.heap) (heap_items r.new.heap) r.result r.ensures.yes r.ensures.none
    ∙ ap (λ q. nat_lt 0 (count g.E.Ord.cmp c.args.event.now q)) c.self.view_is

pub returns-clause-rest : goal.returns-clause-rest
returns-clause-rest g c =
    let r = c.remove_one in
    heap_rest g.E.Ord.cmp g.met.E.Ord.total g.met.E.Timed.exact c.args.event.now (heap_items c.self.inside.heap) (heap_items r.new.heap) r.result r.ensures.yes r.ensures.no r.ensures.none
    ∙ ap (take_out (is_same g.E.Ord.cmp) c.args.event.now) c.self.view_is

pub returns-clause-none : goal.returns-clause-none
returns-clause-none g c =
    on_false c.remove_one.result (λ same. ap (λ items. all_in g.E.Ord.cmp [] items []) same ∙ c.self.view_is) c.remove_one.ensures.no
