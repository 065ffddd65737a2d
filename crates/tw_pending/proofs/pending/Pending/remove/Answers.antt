use Rattle.std.proofs.Common.{◌++◌, nat_lt, ap, ◌∙◌}
use Rattle.std.specs.BinaryHeap.{heap_items}
use Rattle.tw_sim.specs.Ordered.{take_out}
use Rattle.tw_pending.specs.Order.{count, is_same}
use Rattle.tw_pending.specs.Ring.{lists_of, waiting_in}
use Rattle.tw_pending.proofs.Removed.{on_false, told_none, told_rest, told_value}
use Rattle.tw_pending.proofs.pending.Pending.remove.Goals as goal

pub returns-clause-value : goal.returns-clause-value
returns-clause-value g c =
    let a = c.self.inside in
    let t = c.take_equal-found in
    told_value g.E.Ord.cmp g.met.E.Ord.total g.met.E.Timed.exact c.args.event.now (a.tick ++ waiting_in (heap_items a.heap) (lists_of a.ring.days.items)) t.new.tick c.go_on.new.tick (heap_items t.new.heap)
    (lists_of t.new.ring.days.items) (lists_of c.go_on.new.ring.days.items) c.go_on.ensures.all t.result t.ensures.yes t.ensures.none
    ∙ ap (λ q. nat_lt 0 (count g.E.Ord.cmp c.args.event.now q)) c.self.view_is

pub returns-clause-rest : goal.returns-clause-rest
returns-clause-rest g c =
    let a = c.self.inside in
    let t = c.take_equal-found in
    told_rest g.E.Ord.cmp g.met.E.Ord.total g.met.E.Timed.exact c.args.event.now (a.tick ++ waiting_in (heap_items a.heap) (lists_of a.ring.days.items)) t.new.tick c.go_on.new.tick (heap_items t.new.heap)
    (lists_of t.new.ring.days.items) (lists_of c.go_on.new.ring.days.items) c.go_on.ensures.all t.result t.ensures.yes t.ensures.no t.ensures.none
    ∙ ap (take_out (is_same g.E.Ord.cmp) c.args.event.now) c.self.view_is

pub returns-clause-none : goal.returns-clause-none
returns-clause-none g c =
    let a = c.self.inside in
    let t = c.take_equal-found in
    on_false t.result (λ h. h ∙ c.self.view_is)
    (told_none g.E.Ord.cmp g.met.E.Ord.total g.met.E.Timed.exact c.args.event.now (a.tick ++ waiting_in (heap_items a.heap) (lists_of a.ring.days.items)) t.new.tick c.go_on.new.tick (heap_items t.new.heap)
    (lists_of t.new.ring.days.items) (lists_of c.go_on.new.ring.days.items) c.go_on.ensures.all t.result t.ensures.no)
