use Rattle.std.proofs.Common.{◌≡◌, length, refl, ap, ◌∙◌, arith}
use Rattle.tw_event.specs.Order.{event_before, event_same}
use Rattle.tw_sim.specs.Ordered.{take_out, times}
use Rattle.tw_ordered.proofs.Events.{event_law}
use Rattle.tw_ordered.proofs.Ordered.{length-take_out, take_out_none}
use Rattle.tw_queue.proofs.Halves.{homes_take_out}
use Rattle.tw_calendar.proofs.Stacked.{left_taken, right_taken, times_both}
use Rattle.tw_ordered.proofs.Spares.{length_left, missing}
use Rattle.tw_queue.proofs.merged.take_from.Goals as goal

pub returns-then-remove-clause-found : goal.returns-then-remove-clause-found
returns-then-remove-clause-found c = grind (arith, times_both)

pub returns-then-remove-clause-events : goal.returns-then-remove-clause-events
returns-then-remove-clause-events c = grind (arith, left_taken)

pub returns-then-remove-clause-len : goal.returns-then-remove-clause-len
returns-then-remove-clause-len c = grind (arith, length-take_out, event_law)

pub returns-then-remove-clause-homes : goal.returns-then-remove-clause-homes
returns-then-remove-clause-homes c h =
    homes_take_out c.args.rest.now.routers c.args.rest.now.routers c.args.event.now c.args.calendar.now c.remove.new.self c.remove.ensures.events refl h

pub returns-then-remove-clause-empty : goal.returns-then-remove-clause-empty
returns-then-remove-clause-empty c h = c.remove.ensures.events ∙ ap (take_out event_same c.args.event.now) h

-- the calendar does not have it
absent : (c : goal.After-remove_from) → times event_same c.args.event.now c.args.calendar.now ≡ 0
absent c = missing c.args.event.now c.args.calendar.now c.remove.result c.if-remove.false c.remove.ensures.found.1

stays : (c : goal.After-remove_from) → c.remove.new.self ≡ c.args.calendar.now
stays c = c.remove.ensures.events ∙ take_out_none event_before event_same event_law c.args.event.now c.args.calendar.now (absent c)

pub returns-clause-found : goal.returns-clause-found
returns-clause-found c = grind (arith, times_both, absent)

pub returns-clause-events : goal.returns-clause-events
returns-clause-events c =
    right_taken c.args.event.now c.args.calendar.now c.args.rest.now.events c.remove.new.self c.remove_from.new.rest.events (absent c) c.remove.ensures.events c.remove_from.ensures.events

pub returns-clause-len : goal.returns-clause-len
returns-clause-len c =
    let same = ap (λ xs. length xs) (stays c) in
    let h = length_left c.args.event.now c.args.rest.now.events c.remove_from.new.rest.events c.remove_from.result c.remove_from.ensures.found c.remove_from.ensures.events in
    omega arith

pub returns-clause-homes : goal.returns-clause-homes
returns-clause-homes c h =
    homes_take_out c.args.rest.now.routers c.remove_from.new.rest.routers c.args.event.now c.args.calendar.now c.remove.new.self c.remove.ensures.events c.remove_from.ensures.routers h

pub returns-clause-empty : goal.returns-clause-empty
returns-clause-empty c h = c.remove.ensures.events ∙ ap (take_out event_same c.args.event.now) h
