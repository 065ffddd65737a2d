use Rattle.std.proofs.Common.{◌≡◌, ap, sym, ◌∙◌, subst, arith}
use Rattle.std.proofs.lemmas.Bool.{false≢true}
use Rattle.tw_event.specs.Order.{event_before, event_same}
use Rattle.tw_sim.specs.Ordered.{take_out, times}
use Rattle.tw_sim.specs.Rising.{IsRising}
use Rattle.tw_ordered.proofs.Events.{event_law}
use Rattle.tw_ordered.proofs.Ordered.{take_out_none}
use Rattle.tw_ordered.proofs.Rows.{is_absent, is_there, out_of, rising-take_out}
use Rattle.tw_ordered.proofs.ordered_queue.OrderedQueue.remove.Goals as goal

absent : (c : goal.Then-not-is_at) → times event_same c.args.event.now c.args.self.now ≡ 0
absent c = grind (arith, is_absent)

pub returns-then-not-is_at-clause-found : goal.returns-then-not-is_at-clause-found
returns-then-not-is_at-clause-found c = grind (arith, absent, false≢true)

pub returns-then-not-is_at-clause-events : goal.returns-then-not-is_at-clause-events
returns-then-not-is_at-clause-events c =
    sym (take_out_none event_before event_same event_law c.args.event.now c.args.self.now (absent c))

left : (c : goal.After-remove) → c.remove.new.self.items ≡ take_out event_same c.args.event.now c.self.inside.events.items
left c = grind (arith, out_of)

pub invariant_of-self : goal.invariant_of-self
invariant_of-self c =
    subst (IsRising event_before event_same) (sym (left c)) (rising-take_out c.args.event.now c.self.inside.events.items c.self.invariant)

pub returns-clause-found : goal.returns-clause-found
returns-clause-found c = grind (arith, is_there)

pub returns-clause-events : goal.returns-clause-events
returns-clause-events c = left c ∙ ap (take_out event_same c.args.event.now) c.self.view_is
