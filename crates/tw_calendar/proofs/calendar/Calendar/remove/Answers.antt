use Rattle.std.proofs.Common.{◌≡◌, ap, ◌∙◌, arith}
use Rattle.tw_event.specs.Order.{event_same}
use Rattle.tw_sim.specs.Ordered.{take_out, times}
use Rattle.tw_calendar.proofs.Stacked.{left_taken, right_taken, counted}
use Rattle.tw_ordered.proofs.Spares.{missing}
use Rattle.tw_calendar.proofs.calendar.Calendar.remove.Goals as goal

pub returns-then-remove-clause-found : goal.returns-then-remove-clause-found
returns-then-remove-clause-found c =
    let a = c.self.inside in
    let n = counted c.args.event.now a.ring a.wheel c.args.self.now c.self.view_is in
    let h = c.remove.ensures.found.0 c.if-remove.true in
    (λ u. omega arith, λ l. c.if-remove.true)

pub returns-then-remove-clause-events : goal.returns-then-remove-clause-events
returns-then-remove-clause-events c =
    let a = c.self.inside in
    let e = c.args.event.now in
    left_taken e a.ring a.wheel c.remove.new.self a.wheel (c.remove.ensures.found.0 c.if-remove.true) c.remove.ensures.events ∙ ap (take_out event_same e) c.self.view_is

absent : (c : goal.After-remove-else-remove) → times event_same c.args.event.now c.self.inside.ring ≡ 0
absent c = missing c.args.event.now c.self.inside.ring c.remove.result c.if-remove.false c.remove.ensures.found.1

pub returns-else-remove-clause-found : goal.returns-else-remove-clause-found
returns-else-remove-clause-found c =
    let a = c.self.inside in
    let n = counted c.args.event.now a.ring a.wheel c.args.self.now c.self.view_is in
    let z = absent c in
    let f = c.remove-else-remove.ensures.found in
    (λ u. let h = f.0 u in omega arith, λ l. f.1 (omega arith))

pub returns-else-remove-clause-events : goal.returns-else-remove-clause-events
returns-else-remove-clause-events c =
    let a = c.self.inside in
    let e = c.args.event.now in
    right_taken e a.ring a.wheel c.remove.new.self c.remove-else-remove.new.self (absent c) c.remove.ensures.events c.remove-else-remove.ensures.events ∙ ap (take_out event_same e) c.self.view_is
