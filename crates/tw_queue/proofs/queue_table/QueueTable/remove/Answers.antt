use Rattle.std.proofs.Common.{◌≡◌, ◌<◌, length, set, sym, ap, subst, ◌∙◌, arith}
use Rattle.std.proofs.lemmas.Bool.{false≢true}
use Rattle.tw_event.specs.Order.{event_before, event_same}
use Rattle.tw_sim.specs.Ordered.{take_out, times}
use Rattle.tw_queue.specs.InTable.{IsInOrder}
use Rattle.tw_ordered.proofs.Events.{event_law}
use Rattle.tw_ordered.proofs.Ordered.{take_out_none}
use Rattle.tw_ordered.proofs.Keyed.{less_placed, less_taken, not_in_lists, rising_set, times_in}
use Rattle.tw_queue.proofs.Tables.{left_early, row_set, table_in_order}
use Rattle.tw_queue.proofs.queue_table.QueueTable.remove.Goals as goal

absent : (c : goal.Then-router-len) → times event_same c.args.event.now c.args.self.now.events ≡ 0
absent c =
    let a = c.self.inside in
    let e = c.args.event.now in
    ap (λ t. times event_same e t.events) (sym c.self.view_is) ∙ not_in_lists (λ d. d.dst) a.queues.items c.self.invariant.placed e (omega (arith, a.queues.ok.0, c.len.ensures, c.if-router-len.true))

pub returns-then-router-len-clause-found : goal.returns-then-router-len-clause-found
returns-then-router-len-clause-found c = grind (arith, absent, false≢true)

pub returns-then-router-len-clause-events : goal.returns-then-router-len-clause-events
returns-then-router-len-clause-events c =
    sym (take_out_none event_before event_same event_law c.args.event.now c.args.self.now.events (absent c))

pub returns-then-router-len-clause-order : goal.returns-then-router-len-clause-order
returns-then-router-len-clause-order c =
    subst (λ t. IsInOrder t) c.self.view_is (table_in_order c.self.inside.queues.items c.self.invariant.placed)

pub invariant_of-self : goal.invariant_of-self
invariant_of-self c =
    let a = c.self.inside in
    let v = c.self.invariant in
    let e = c.args.event.now in
    let queue = c.index_mut-queue.result.now in
    let value = c.index_mut-queue.ensures.value in
    let new = c.remove-removed.new.self in
    let less = c.remove-removed.ensures.events in
    let within : e.dst < length a.queues.items = omega (arith, a.queues.ok.0, c.len.ensures, c.if-router-len.false) in
    record {
      placed = less_placed (λ d. d.dst) a.queues.items v.placed e within queue value new less;
      rising = rising_set a.queues.items e.dst within new v.rising c.first_time-time.ensures.rising;
      early = left_early a.queues.items v.early e within queue value new less;
      first = row_set a.queues.items e.dst within new a.least_times c.set.new.self c.first_time-time.result v.first c.first_time-time.ensures.time c.set.ensures;
    }

pub returns-clause-found : goal.returns-clause-found
returns-clause-found c =
    let a = c.self.inside in
    let v = c.self.invariant in
    let e = c.args.event.now in
    let queue = c.index_mut-queue.result.now in
    let value = c.index_mut-queue.ensures.value in
    let new = c.remove-removed.new.self in
    let less = c.remove-removed.ensures.events in
    let within : e.dst < length a.queues.items = omega (arith, a.queues.ok.0, c.len.ensures, c.if-router-len.false) in
    let f = c.remove-removed.ensures.found in
    let n = times_in (λ d. d.dst) a.queues.items v.placed e within queue value new ∙ ap (λ t. times event_same e t.events) c.self.view_is in
    (λ b. subst (λ m. 0 < m) n (f.0 b), λ l. f.1 (subst (λ m. 0 < m) (sym n) l))

pub returns-clause-events : goal.returns-clause-events
returns-clause-events c =
    let a = c.self.inside in
    let v = c.self.invariant in
    let e = c.args.event.now in
    let queue = c.index_mut-queue.result.now in
    let value = c.index_mut-queue.ensures.value in
    let new = c.remove-removed.new.self in
    let less = c.remove-removed.ensures.events in
    let within : e.dst < length a.queues.items = omega (arith, a.queues.ok.0, c.len.ensures, c.if-router-len.false) in
    less_taken (λ d. d.dst) a.queues.items v.placed e within queue value new less ∙ ap (λ t. take_out event_same e t.events) c.self.view_is

pub returns-clause-order : goal.returns-clause-order
returns-clause-order c =
    let a = c.self.inside in
    let v = c.self.invariant in
    let e = c.args.event.now in
    let queue = c.index_mut-queue.result.now in
    let value = c.index_mut-queue.ensures.value in
    let new = c.remove-removed.new.self in
    let less = c.remove-removed.ensures.events in
    let within : e.dst < length a.queues.items = omega (arith, a.queues.ok.0, c.len.ensures, c.if-router-len.false) in
    table_in_order (set a.queues.items e.dst new) (less_placed (λ d. d.dst) a.queues.items v.placed e within queue value new less)
