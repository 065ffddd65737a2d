use Rattle.std.proofs.Common.{◌≡◌, ap, sym, ◌∙◌, refl, arith}
use Rattle.std.proofs.lemmas.Bool.{false≢true}
use Rattle.tw_event.specs.Order.{event_before, event_same}
use Rattle.tw_sim.specs.Ordered.{times}
use Rattle.tw_queue.specs.Times.{in_buckets}
use Rattle.tw_ordered.proofs.Events.{event_law}
use Rattle.tw_ordered.proofs.Lists.{times-take_out-le}
use Rattle.tw_ordered.proofs.Ordered.{take_out_none, times-take_out}
use Rattle.tw_queue.proofs.Queues.{come_out, none_near, out_far, queue_counts}
use Rattle.tw_ordered.proofs.Released.{no_length}
use Rattle.tw_queue.proofs.bucket_queue.BucketQueue.remove.Goals as goal

absent : (c : goal.After-remove_far) → times event_same c.args.event.now c.self.inside.near ≡ 0
absent c = none_near c.args.event.now c.self.inside.near (λ l. false≢true (c.if-not-remove.ensures.found.1 l))

-- the near ones stay
same : (c : goal.After-remove_far) → c.remove.new.self ≡ c.self.inside.near
same c = c.if-not-remove.ensures.events ∙ take_out_none event_before event_same event_law c.args.event.now c.self.inside.near (absent c)

pub invariant_of-self : goal.invariant_of-self
invariant_of-self c d e there other = grind (arith, times-take_out-le, same)

pub returns-then-not-remove-clause-found : goal.returns-then-not-remove-clause-found
returns-then-not-remove-clause-found c = grind (arith, queue_counts, absent)

pub returns-then-not-remove-clause-events : goal.returns-then-not-remove-clause-events
returns-then-not-remove-clause-events c =
    rw (same c) (out_far c.self.inside.near (in_buckets c.self.inside.far) c.args.self.now c.self.view_is c.args.event.now (in_buckets c.remove_far.new.far) (absent c) c.remove_far.ensures.events)

pub invariant_of-self-else-len-eq0 : goal.invariant_of-self-else-len-eq0
invariant_of-self-else-len-eq0 c d e there other = grind (arith, times-take_out-le)

pub returns-then-len-eq0-clause-found : goal.returns-then-len-eq0-clause-found
returns-then-len-eq0-clause-found c = grind (arith, queue_counts)

pub returns-then-len-eq0-clause-events : goal.returns-then-len-eq0-clause-events
returns-then-len-eq0-clause-events c =
    let a = c.self.inside in
    let e = c.args.event.now in
    come_out a.near (in_buckets a.far) c.args.self.now c.self.view_is e c.move_tick.new.near (in_buckets c.move_tick.new.far) (λ d.
    let there = c.if-not-remove.ensures.found.0 refl in
    let n = times-take_out event_before event_same event_law d e a.near there in
    let m = ap (times event_same d) (sym c.if-not-remove.ensures.events) in
    let z = ap (times event_same d) (no_length c.remove.new.self (sym c.len.ensures ∙ c.if-len-eq0.true)) in
    let k = c.move_tick.ensures.all d in
    omega arith)

pub returns-else-len-eq0-clause-found : goal.returns-else-len-eq0-clause-found
returns-else-len-eq0-clause-found c = grind (arith, queue_counts)

pub returns-else-len-eq0-clause-events : goal.returns-else-len-eq0-clause-events
returns-else-len-eq0-clause-events c =
    let a = c.self.inside in
    let e = c.args.event.now in
    come_out a.near (in_buckets a.far) c.args.self.now c.self.view_is e c.remove.new.self (in_buckets a.far) (λ d.
    let there = c.if-not-remove.ensures.found.0 refl in
    let n = times-take_out event_before event_same event_law d e a.near there in
    let m = ap (times event_same d) (sym c.if-not-remove.ensures.events) in
    omega arith)
