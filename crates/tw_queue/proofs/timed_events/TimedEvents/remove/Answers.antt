use Rattle.std.proofs.Common.{◌<◌, position, refl, remove, ap, sym, ◌∙◌, subst, arith}
use Rattle.std.proofs.lemmas.Bool.{false≢true}
use Rattle.tw_event.specs.Order.{event_before, event_same}
use Rattle.tw_sim.specs.Ordered.{times}
use Rattle.tw_ordered.proofs.Events.{event_law}
use Rattle.tw_ordered.proofs.Ordered.{take_out_none}
use Rattle.tw_ordered.proofs.Places.{equals, map-remove, nowhere, taken_at, there}
use Rattle.tw_queue.proofs.timed_events.TimedEvents.remove.Goals as goal

pub invariant_of-self : goal.invariant_of-self
invariant_of-self c = grind (arith, remove, map-remove)

pub returns-in-Some-clause-found : goal.returns-in-Some-clause-found
returns-in-Some-clause-found c =
    let e = c.args.event.now in
    let p = ap (position (equals e)) (sym c.deref.ensures.value) ∙ sym c.place_of.ensures ∙ c.in-Some.is in
    (λ u. subst (λ xs. 0 < times event_same e xs) c.self.view_is (there e c.self.inside.events.items c.in-Some.place p), λ u. refl)

pub returns-in-Some-clause-events : goal.returns-in-Some-clause-events
returns-in-Some-clause-events c = grind (arith, position, equals, taken_at)

pub returns-in-None-clause-found : goal.returns-in-None-clause-found
returns-in-None-clause-found c =
    let e = c.args.event.now in
    let p = ap (position (equals e)) (sym c.deref.ensures.value) ∙ sym c.place_of.ensures ∙ c.in-None.is in
    let z = nowhere e c.self.inside.events.items p in
    let n = ap (times event_same e) c.self.view_is in
    (λ u. absurd (false≢true u), λ l. absurd (omega arith))

pub returns-in-None-clause-events : goal.returns-in-None-clause-events
returns-in-None-clause-events c =
    let e = c.args.event.now in
    let p = ap (position (equals e)) (sym c.deref.ensures.value) ∙ sym c.place_of.ensures ∙ c.in-None.is in
    let z = nowhere e c.self.inside.events.items p in
    let n = ap (times event_same e) c.self.view_is in
    sym (take_out_none event_before event_same event_law e c.args.self.now (omega arith))
