use Rattle.std.proofs.Common.{[], get_or, sym, ap, ◌∙◌}
use Rattle.tw_event.specs.Order.{event_same}
use Rattle.tw_sim.specs.Ordered.{times}
use Rattle.tw_ordered.proofs.Lists.{times-lists}
use Rattle.tw_queue.proofs.queue_table.QueueTable.count.Goals as goal

pub returns-in-Some-clause-times : goal.returns-in-Some-clause-times
returns-in-Some-clause-times c =
    let lists = c.self.inside.queues.items in
    let e = c.args.event.now in
    let some = c.in-Some.ensures.some ∙ ap (λ xs. get_or xs e.dst []) c.deref.ensures.value in
    let n = times-lists (λ d. d.dst) lists c.self.invariant.placed e in
    c.count.ensures.times ∙ ap (times event_same e) some ∙ sym n ∙ ap (λ t. times event_same e t.events) c.self.view_is

pub returns-in-None-clause-times : goal.returns-in-None-clause-times
returns-in-None-clause-times c =
    let lists = c.self.inside.queues.items in
    let e = c.args.event.now in
    let none = ap (λ xs. get_or xs e.dst []) (sym c.deref.ensures.value) ∙ c.in-None.ensures.none in
    let n = times-lists (λ d. d.dst) lists c.self.invariant.placed e in
    ap (times event_same e) (sym none) ∙ sym n ∙ ap (λ t. times event_same e t.events) c.self.view_is
