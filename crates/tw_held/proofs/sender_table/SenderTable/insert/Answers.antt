use Rattle.std.proofs.Common.{◌<◌, length, set, ap, subst, ◌∙◌, arith}
use Rattle.tw_event.specs.Order.{event_before, event_same}
use Rattle.tw_sim.specs.Ordered.{insert}
use Rattle.tw_sim.specs.Rising.{IsRising}
use Rattle.tw_ordered.specs.Buckets.{together}
use Rattle.tw_ordered.proofs.Events.{event_law}
use Rattle.tw_ordered.proofs.Keyed.{more_inserted, more_placed, more_rising}
use Rattle.tw_ordered.proofs.Ordered.{rising-in_order}
use Rattle.tw_held.proofs.sender_table.SenderTable.insert.Goals as goal

pub returns-then-router-len-clause-rising : goal.returns-then-router-len-clause-rising
returns-then-router-len-clause-rising c =
    subst (IsRising event_before event_same) c.self.view_is (rising-in_order event_before event_same event_law (together c.self.inside.queues.items))

pub returns-in-Err-clause-rising : goal.returns-in-Err-clause-rising
returns-in-Err-clause-rising c =
    rising-in_order event_before event_same event_law (together (set c.self.inside.queues.items c.args.event.src c.insert.new.self))

pub invariant_of-self-2 : goal.invariant_of-self-2
invariant_of-self-2 c =
    let a = c.self.inside in
    let v = c.self.invariant in
    let e = c.args.event in
    let queue = c.index_mut-queue.result.now in
    let within : e.src < length a.queues.items = omega (arith, a.queues.ok.0, c.len.ensures, c.if-router-len.false) in
    record {
      placed = more_placed (λ d. d.src) a.queues.items v.placed e within queue c.index_mut-queue.ensures.value c.insert.new.self c.in_default.ensures.ok;
      rising = more_rising (λ d. d.src) a.queues.items v.placed e within queue c.index_mut-queue.ensures.value c.insert.new.self c.in_default.ensures.ok v.rising;
    }

pub returns-clause-added : goal.returns-clause-added
returns-clause-added c =
    let a = c.self.inside in
    let v = c.self.invariant in
    let e = c.args.event in
    let queue = c.index_mut-queue.result.now in
    let within : e.src < length a.queues.items = omega (arith, a.queues.ok.0, c.len.ensures, c.if-router-len.false) in
    more_inserted (λ d. d.src) a.queues.items v.placed e within queue c.index_mut-queue.ensures.value c.insert.new.self c.in_default.ensures.ok ∙ ap (insert event_before e) c.self.view_is

pub returns-clause-rising : goal.returns-clause-rising
returns-clause-rising c =
    rising-in_order event_before event_same event_law (together (set c.self.inside.queues.items c.args.event.src c.insert.new.self))
