use Rattle.std.proofs.Common.{drop, ap, ◌∙◌}
use Rattle.std.specs.BinaryHeap.{heap_items}
use Rattle.tw_pending.specs.Ring.{lists_of}
use Rattle.tw_pending.proofs.All.{all_same}
use Rattle.tw_pending.proofs.pending.Pending.take_least.Goals as goal

pub returns-clause-rest : goal.returns-clause-rest
returns-clause-rest g c =
    let a = c.self.inside in
    all_same g.E.Ord.cmp g.met.E.Ord.total g.met.E.Timed.exact c.take_first-least.new.tick c.go_on.new.tick (heap_items c.take_first-least.new.heap) (lists_of a.ring.days.items)
    (lists_of c.go_on.new.ring.days.items) c.go_on.ensures.all
    ∙ (c.take_first-least.ensures.rest ∙ ap (drop 1) c.self.view_is)
