-- The first pending event of a router.
use Rattle.std.proofs.Common.{IfSome, ◌≡◌, ℕ, ◌==◌, true, false, List, [], ◌∷◌, drop, filter, refl, ap, sym, ◌∙◌, subst, inl, inr, Some, slice_get}
use Rattle.std.specs.List.{AllByRecursion}
use Rattle.std.proofs.lemmas.Bool.{cases_Bool, eq-eqb, eqb-true}
use Rattle.tw_core.specs.Steps.{is_newest}
use Rattle.tw_event.specs.declared.event.Event.{Event}
use Rattle.tw_event.specs.Order.{event_before, event_same}
use Rattle.tw_event.proofs.Order.{same_self}
use Rattle.tw_model.specs.Case.{Case, IsCase, simulation}
use Rattle.tw_model.specs.Effect.{suits}
use Rattle.tw_model.specs.Net.{Net}
use Rattle.tw_model.proofs.Lawful.{lawful}
use Rattle.tw_sim.specs.Ordered.{earlier, least, take_out}
use Rattle.tw_sim.specs.Rising.{IsRising}
use Rattle.tw_sim.specs.Simulation.{Simulation, IsLawful}
use Rattle.tw_sim.proofs.Counts.{in_head}
use Rattle.tw_sim.proofs.Rising.{rising-filter}

-- of a list in order the first element is the least
pub least_first : {S E : Type 0} (m : Simulation S E) → IsLawful m → (xs : List E) → IsRising m.before m.same xs → least m.before xs ≡ slice_get xs 0
least_first m law [] r = refl
least_first m law (x ∷ []) r = refl
least_first m law (x ∷ y ∷ ys) r =
    let later = least_first m law (y ∷ ys) r.1 in
    let first : m.before y x ≡ false = r.0 y (in_head m law y ys) in
    ap (λ d. Some (earlier m.before x d)) later ∙ rw first refl

-- and so of those for one router
pub first_of : (case : Case) → IsCase case → (r : ℕ) (events : List Event) → IsRising event_before event_same events
    → slice_get (filter (λ e. e.dst == r) events) 0 ≡ least event_before (filter (λ e. e.dst == r) events)
first_of case is r events rising =
    let m = simulation case in
    sym (least_first m (lawful case is) (filter (λ e. e.dst == r) events) (rising-filter m (lawful case is) (λ e. e.dst == r) events rising))

-- the first of a router's events suits it
pub first_suits : (net : Net) (r : ℕ) (events : List Event) → AllByRecursion (λ e. suits net e.dst e ≡ true) events
    → IfSome (slice_get (filter (λ e. e.dst == r) events) 0) (λ e. suits net r e ≡ true)
first_suits net r [] all = tt
first_suits net r (e ∷ events) all =
    elim (cases_Bool (e.dst == r)) [
      | inl here ↦ rw here (subst (λ v. suits net v e ≡ true) (eqb-true e.dst r here) all.0)
      | inr other ↦ rw other (first_suits net r events all.1)
    ]

-- what suits goes on to where one event has left
pub suit_without : (net : Net) (e : Event) (events : List Event) → AllByRecursion (λ x. suits net x.dst x ≡ true) events
    → AllByRecursion (λ x. suits net x.dst x ≡ true) (take_out event_same e events)
suit_without net e [] all = tt
suit_without net e (x ∷ events) all =
    elim (cases_Bool (event_same e x)) [
      | inl same ↦ rw same all.1
      | inr other ↦ rw other (all.0, suit_without net e events all.1)
    ]

-- the first event suits its receiver
pub head_suits : (net : Net) (e : Event) (events : List Event) → slice_get events 0 ≡ Some e → AllByRecursion (λ x. suits net x.dst x ≡ true) events
    → suits net e.dst e ≡ true
head_suits net e [] first all = absurd (cc first)
head_suits net e (x ∷ events) first all = let same : x ≡ e = cc first in subst (λ (y : Event). suits net y.dst y ≡ true) same all.0

-- the first event is the first one of its receiver
head_at : (e : Event) (events : List Event) → slice_get events 0 ≡ Some e → slice_get (filter (λ x. x.dst == e.dst) events) 0 ≡ Some e
head_at e [] first = absurd (cc first)
head_at e (x ∷ events) first =
    let same : x ≡ e = cc first in
    rw (eq-eqb x.dst e.dst (ap (λ (y : Event). y.dst) same)) (ap (λ (y : Event). Some y) same)

pub head_next : (case : Case) → IsCase case → (e : Event) (events : List Event) → IsRising event_before event_same events → slice_get events 0 ≡ Some e
    → least event_before (filter (λ x. x.dst == e.dst) events) ≡ Some e
head_next case is e events rising first = sym (first_of case is e.dst events rising) ∙ head_at e events first

none_dropped : (x : Event) (events : List Event) → drop 1 (x ∷ events) ≡ events
none_dropped x [] = refl
none_dropped x (y ∷ events) = refl

-- without its first event a list is without that event
pub head_out : (e : Event) (events : List Event) → slice_get events 0 ≡ Some e → drop 1 events ≡ take_out event_same e events
head_out e [] first = absurd (cc first)
head_out e (x ∷ events) first =
    let same : x ≡ e = cc first in
    rw (ap (event_same e) same ∙ same_self e) (none_dropped x events)

-- the event that is newest is the same as another where that one is the newest
pub newest_same : (case : Case) (e d : Event) (h : List Event) → Some d ≡ slice_get h 0 → event_same e d ≡ is_newest (simulation case) e h
newest_same case e d [] is = absurd (cc is)
newest_same case e d (x ∷ h) is = let same : d ≡ x = cc is in ap (event_same e) same
