use Rattle.std.proofs.Common.{◌≡◌, ◌+◌, Some, drop, length, position, refl, ap, sym, ◌∙◌, arith}
use Rattle.std.proofs.lemmas.Bool.{false≢true}
use Rattle.tw_event.specs.Order.{event_before, event_same}
use Rattle.tw_sim.specs.Ordered.{take_out, times}
use Rattle.tw_calendar.specs.Update.{events_at}
use Rattle.tw_ordered.proofs.Events.{event_law}
use Rattle.tw_ordered.proofs.Ordered.{take_out_none}
use Rattle.tw_ordered.proofs.Places.{equals, nowhere, there}
use Rattle.tw_calendar.proofs.Sought.{found_left, found_long, none_left, sought_in}
use Rattle.tw_calendar.proofs.tick.Tick.remove.Goals as goal

-- where it is of another time
elsewhere : (c : goal.Then-event-self) → times event_same c.args.event.now (drop c.args.start c.args.self.now) ≡ 0
elsewhere c =
    let a = c.self.inside in
    ap (λ xs. times event_same c.args.event.now (drop c.args.start xs)) (sym c.self.view_is) ∙ none_left c.args.event.now a.time a.updates.items c.args.start c.if-event-self.true

pub returns-then-event-self-clause-found : goal.returns-then-event-self-clause-found
returns-then-event-self-clause-found c =
    let z = elsewhere c in
    (λ u. absurd (false≢true u), λ l. absurd (omega arith))

pub returns-then-event-self-clause-left : goal.returns-then-event-self-clause-left
returns-then-event-self-clause-left c = sym (take_out_none event_before event_same event_law c.args.event.now (drop c.args.start c.args.self.now) (elsewhere c))

nowhere_left : (c : goal.In_default) → times event_same c.args.event.now (drop c.args.start c.args.self.now) ≡ 0
nowhere_left c =
    let a = c.self.inside in
    let sought = sought_in c.args.event.now a.time a.updates.items _ c.args.start c.args.self.now c.place_of.result c.deref.ensures.value c.self.view_is c.place_of.ensures in
    nowhere c.args.event.now (drop c.args.start c.args.self.now) (sym sought ∙ c.in_default.is)

pub returns-in_default-clause-found : goal.returns-in_default-clause-found
returns-in_default-clause-found c =
    let z = nowhere_left c in
    (λ u. absurd (false≢true u), λ l. absurd (omega arith))

pub returns-in_default-clause-left : goal.returns-in_default-clause-left
returns-in_default-clause-left c = sym (take_out_none event_before event_same event_law c.args.event.now (drop c.args.start c.args.self.now) (nowhere_left c))

-- it is at a place
at_place : (c : goal.After-remove) → position (equals c.args.event.now) (drop c.args.start c.args.self.now) ≡ Some c.in-Some.place
at_place c =
    let a = c.self.inside in
    sym (sought_in c.args.event.now a.time a.updates.items _ c.args.start c.args.self.now c.place_of.result c.deref.ensures.value c.self.view_is c.place_of.ensures) ∙ c.in-Some.is

stands_at : (c : goal.After-remove) → position (equals c.args.event.now) (drop c.args.start (events_at c.self.inside.time c.self.inside.updates.items)) ≡ Some c.in-Some.place
stands_at c = ap (λ xs. position (equals c.args.event.now) (drop c.args.start xs)) c.self.view_is ∙ at_place c

pub returns-clause-found : goal.returns-clause-found
returns-clause-found c =
    let l = there c.args.event.now (drop c.args.start c.args.self.now) c.in-Some.place (at_place c) in
    (λ u. l, λ k. refl)

pub returns-clause-left : goal.returns-clause-left
returns-clause-left c =
    let a = c.self.inside in
    let e = c.args.event.now in
    ap (λ us. drop c.args.start (events_at a.time us)) c.remove.ensures.items ∙ found_left e a.time a.updates.items c.args.start c.in-Some.place (c.args.start + c.in-Some.place) refl (stands_at c)
    ∙ ap (λ xs. take_out event_same e (drop c.args.start xs)) c.self.view_is

pub returns-clause-within : goal.returns-clause-within
returns-clause-within c =
    let a = c.self.inside in
    let l = found_long c.args.event.now a.time a.updates.items c.args.start c.in-Some.place (c.args.start + c.in-Some.place) refl (stands_at c) in
    let s = ap (λ us. length (events_at a.time us)) c.remove.ensures.items in
    omega arith
