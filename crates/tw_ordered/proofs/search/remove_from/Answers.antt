use Rattle.std.proofs.Common.{position, refl, ap, sym, ◌∙◌, arith}
use Rattle.std.proofs.lemmas.Bool.{false≢true}
use Rattle.tw_event.specs.Order.{event_before, event_same}
use Rattle.tw_ordered.proofs.Events.{event_law}
use Rattle.tw_ordered.proofs.Ordered.{take_out_none}
use Rattle.tw_ordered.proofs.Places.{equals, nowhere, taken_at, there}
use Rattle.tw_ordered.proofs.search.remove_from.Goals as goal

pub returns-in-Some-clause-found : goal.returns-in-Some-clause-found
returns-in-Some-clause-found c =
    let e = c.args.event.now in
    let p = ap (position (equals e)) (sym c.deref.ensures.value) ∙ sym c.place_of.ensures ∙ c.in-Some.is in
    (λ u. there e c.args.events.now.items c.in-Some.place p, λ u. refl)

pub returns-in-Some-clause-items : goal.returns-in-Some-clause-items
returns-in-Some-clause-items c = grind (arith, position, equals, taken_at)

pub returns-in-None-clause-found : goal.returns-in-None-clause-found
returns-in-None-clause-found c =
    let e = c.args.event.now in
    let p = ap (position (equals e)) (sym c.deref.ensures.value) ∙ sym c.place_of.ensures ∙ c.in-None.is in
    let z = nowhere e c.args.events.now.items p in
    (λ u. absurd (false≢true u), λ l. absurd (omega arith))

pub returns-in-None-clause-items : goal.returns-in-None-clause-items
returns-in-None-clause-items c =
    let e = c.args.event.now in
    let p = ap (position (equals e)) (sym c.deref.ensures.value) ∙ sym c.place_of.ensures ∙ c.in-None.is in
    sym (take_out_none event_before event_same event_law e c.args.events.now.items (nowhere e c.args.events.now.items p))
