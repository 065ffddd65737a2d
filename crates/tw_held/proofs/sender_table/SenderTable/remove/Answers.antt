use Rattle.std.proofs.Common.{◌≡◌, ◌<◌, length, set, sym, ap, subst, ◌∙◌, arith}
use Rattle.std.proofs.lemmas.Bool.{false≢true}
use Rattle.tw_event.specs.Order.{event_before, event_same}
use Rattle.tw_sim.specs.Ordered.{take_out, times}
use Rattle.tw_sim.specs.Rising.{IsRising}
use Rattle.tw_ordered.specs.Buckets.{together}
use Rattle.tw_ordered.proofs.Events.{event_law}
use Rattle.tw_ordered.proofs.Keyed.{less_placed, less_taken, not_in_lists, times_in, less_rising}
use Rattle.tw_ordered.proofs.Ordered.{rising-in_order, take_out_none}
use Rattle.tw_held.proofs.sender_table.SenderTable.remove.Goals as goal

absent : (c : goal.Then-router-len) → times event_same c.args.event.now c.args.self.now ≡ 0
absent c =
    let a = c.self.inside in
    let e = c.args.event.now in
    ap (times event_same e) (sym c.self.view_is)
    ∙ not_in_lists (λ d. d.src) a.queues.items c.self.invariant.placed e (omega (arith, a.queues.ok.0, c.len.ensures, c.if-router-len.true))

pub returns-then-router-len-clause-found : goal.returns-then-router-len-clause-found
returns-then-router-len-clause-found c =
    let h = absent c in
    (λ u. absurd (false≢true u), λ l. absurd (omega arith))

pub returns-then-router-len-clause-events : goal.returns-then-router-len-clause-events
returns-then-router-len-clause-events c =
    sym (take_out_none event_before event_same event_law c.args.event.now c.args.self.now (absent c))

pub returns-then-router-len-clause-rising : goal.returns-then-router-len-clause-rising
returns-then-router-len-clause-rising c =
    subst (IsRising event_before event_same) c.self.view_is (rising-in_order event_before event_same event_law (together c.self.inside.queues.items))

pub invariant_of-self : goal.invariant_of-self
invariant_of-self c =
    let a = c.self.inside in
    let v = c.self.invariant in
    let e = c.args.event.now in
    let queue = c.index_mut-queue.result.now in
    let within : e.src < length a.queues.items = omega (arith, a.queues.ok.0, c.len.ensures, c.if-router-len.false) in
    record {
      placed = less_placed (λ d. d.src) a.queues.items v.placed e within queue c.index_mut-queue.ensures.value c.remove.new.self c.remove.ensures.events;
      rising = less_rising (λ d. d.src) a.queues.items v.placed e within queue c.index_mut-queue.ensures.value c.remove.new.self c.remove.ensures.events v.rising;
    }

pub returns-clause-found : goal.returns-clause-found
returns-clause-found c =
    let a = c.self.inside in
    let v = c.self.invariant in
    let e = c.args.event.now in
    let queue = c.index_mut-queue.result.now in
    let within : e.src < length a.queues.items = omega (arith, a.queues.ok.0, c.len.ensures, c.if-router-len.false) in
    let f = c.remove.ensures.found in
    let n = times_in (λ d. d.src) a.queues.items v.placed e within queue c.index_mut-queue.ensures.value c.remove.new.self ∙ ap (times event_same e) c.self.view_is in
    (λ b. subst (λ m. 0 < m) n (f.0 b), λ l. f.1 (subst (λ m. 0 < m) (sym n) l))

pub returns-clause-events : goal.returns-clause-events
returns-clause-events c =
    let a = c.self.inside in
    let v = c.self.invariant in
    let e = c.args.event.now in
    let queue = c.index_mut-queue.result.now in
    let within : e.src < length a.queues.items = omega (arith, a.queues.ok.0, c.len.ensures, c.if-router-len.false) in
    less_taken (λ d. d.src) a.queues.items v.placed e within queue c.index_mut-queue.ensures.value c.remove.new.self c.remove.ensures.events ∙ ap (take_out event_same e) c.self.view_is

pub returns-clause-rising : goal.returns-clause-rising
returns-clause-rising c =
    rising-in_order event_before event_same event_law (together (set c.self.inside.queues.items c.args.event.now.src c.remove.new.self))
