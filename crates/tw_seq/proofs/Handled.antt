-- What handling an event does to the routers of a run, and to the time of the last change.
use Rattle.std.proofs.Common.{◌≡◌, ℕ, ◌<◌, ◌==◌, not, List, [], ◌∷◌, ◌++◌, length, reverse, set, get_or, ap, sym, ◌∙◌, subst, inl, inr, arith, length-set, if◌then◌else◌}
use Rattle.std.proofs.lemmas.Bool.{cases_eq}
use Rattle.std.proofs.lemmas.List.{ext_get_or, get_or-set_other, get_or-set_same}
use Rattle.std.proofs.lemmas.List.FromFn.{get_or-map-range_with_len, length-map-range_with_len}
use Rattle.tw_event.specs.declared.event.Event.{Event}
use Rattle.tw_model.specs.Case.{Case, simulation}
use Rattle.tw_model.specs.Quiet.{last_change}
use Rattle.tw_model.specs.State.{Router}
use Rattle.tw_seq.specs.Run.{router_after, routers_after}
use Rattle.tw_handlers.specs.Calls.{after_event}
use Rattle.tw_seq.proofs.Steps.{reverse-push, state_own, state_other}

own-router : (case : Case) (events : List Event) (e : Event) → after_event (router_after case events e.dst) e ≡ router_after case (events ++ e ∷ []) e.dst
own-router case events e = ap (λ s. record { net = case.net; node = e.dst; state = s }) (sym (state_own (simulation case) events e))

other-router : (case : Case) (events : List Event) (e : Event) (r : ℕ) → (e.dst ≡ r → ⊥) → router_after case (events ++ e ∷ []) r ≡ router_after case events r
other-router case events e r h = ap (λ s. record { net = case.net; node = r; state = s }) (state_other (simulation case) events e r h)

pub length-routers : (case : Case) (events : List Event) → length (routers_after case events) ≡ case.net.nodes
length-routers case events = length-map-range_with_len (router_after case events) 0 case.net.nodes

pub get_or-routers : (case : Case) (events : List Event) (r : ℕ) (d : Router) → r < case.net.nodes → get_or (routers_after case events) r d ≡ router_after case events r
get_or-routers case events r d h = get_or-map-range_with_len (router_after case events) 0 case.net.nodes r r d h (omega arith)

-- the router of an event is the one that changes
pub set-routers : (case : Case) (events : List Event) (e : Event) → e.dst < case.net.nodes
    → set (routers_after case events) e.dst (after_event (router_after case events e.dst) e) ≡ routers_after case (events ++ e ∷ [])
set-routers case events e within =
    let new = after_event (router_after case events e.dst) e in
    let old = routers_after case events in
    let d = router_after case events 0 in
    let before = length-routers case events in
    let same_length = length-set old e.dst new ∙ (before ∙ sym (length-routers case (events ++ e ∷ []))) in
    ext_get_or d (set old e.dst new) (routers_after case (events ++ e ∷ [])) same_length (λ r below.
    let count = length-set old e.dst new in
    let there : r < case.net.nodes = omega arith in
    sym (get_or-routers case (events ++ e ∷ []) r d there ∙ elim (cases_eq e.dst r) [
      | inl is ↦
          subst (λ q. router_after case (events ++ e ∷ []) q ≡ get_or (set old e.dst new) q d) is
          (sym (get_or-set_same old e.dst new d (omega arith) ∙ own-router case events e))
      | inr apart ↦
          other-router case events e r apart ∙ sym (get_or-set_other old e.dst r new d (λ is. apart (sym is)) ∙ get_or-routers case events r d there)
    ]))

-- the time of the last change, with one more event
pub last_change-push : (case : Case) (events : List Event) (e : Event)
    → last_change case (reverse (events ++ e ∷ []))
    ≡ (if not ((router_after case events e.dst).state.rib.0 == (after_event (router_after case events e.dst) e).state.rib.0) then e.time
    else last_change case (reverse events))
last_change-push case events e = rw reverse-push
