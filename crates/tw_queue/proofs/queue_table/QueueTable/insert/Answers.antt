use Rattle.std.proofs.Common.{◌<◌, length, set, ap, ◌∙◌, arith}
use Rattle.tw_event.specs.Order.{event_before}
use Rattle.tw_sim.specs.Ordered.{insert}
use Rattle.tw_ordered.proofs.Keyed.{more_inserted, more_placed, rising_set}
use Rattle.tw_queue.proofs.Tables.{queue_early, row_set, table_in_order}
use Rattle.tw_queue.proofs.queue_table.QueueTable.insert.Goals as goal

pub invariant_of-self-2 : goal.invariant_of-self-2
invariant_of-self-2 c =
    let lists = c.self.inside.queues.items in
    let v = c.self.invariant in
    let e = c.args.event in
    let queue = c.index_mut-queue.result.now in
    let more = c.in_default.ensures.ok in
    let long = ap (λ t. t.routers) c.self.view_is in
    let within : c.args.event.dst < length c.self.inside.queues.items = omega (arith, c.requires) in
    record {
      placed = more_placed (λ d. d.dst) lists v.placed e within queue c.index_mut-queue.ensures.value c.insert.new.self more;
      rising = rising_set lists e.dst within c.insert.new.self v.rising c.first_time-time.ensures.rising;
      early = queue_early lists v.early e within queue c.index_mut-queue.ensures.value c.insert.new.self more (omega (arith, c.if-event-ge18446744073709551615.false));
      first = row_set lists e.dst within c.insert.new.self c.self.inside.least_times c.set.new.self c.first_time-time.result v.first c.first_time-time.ensures.time c.set.ensures;
    }

pub returns-clause-added : goal.returns-clause-added
returns-clause-added c =
    let lists = c.self.inside.queues.items in
    let v = c.self.invariant in
    let e = c.args.event in
    let queue = c.index_mut-queue.result.now in
    let long = ap (λ t. t.routers) c.self.view_is in
    let within : c.args.event.dst < length c.self.inside.queues.items = omega (arith, c.requires) in
    more_inserted (λ d. d.dst) lists v.placed e within queue c.index_mut-queue.ensures.value c.insert.new.self c.in_default.ensures.ok ∙ ap (λ t. insert event_before e t.events) c.self.view_is

pub returns-clause-order : goal.returns-clause-order
returns-clause-order c =
    let lists = c.self.inside.queues.items in
    let v = c.self.invariant in
    let e = c.args.event in
    let queue = c.index_mut-queue.result.now in
    let long = ap (λ t. t.routers) c.self.view_is in
    let within : c.args.event.dst < length c.self.inside.queues.items = omega (arith, c.requires) in
    let placed = more_placed (λ d. d.dst) lists v.placed e within queue c.index_mut-queue.ensures.value c.insert.new.self c.in_default.ensures.ok in
    table_in_order (set lists e.dst c.insert.new.self) placed
