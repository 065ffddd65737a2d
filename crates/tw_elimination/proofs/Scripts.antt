-- The routers stand as they should once they have handled the script in its order.
use Rattle.std.proofs.Common.{◌≡◌, ℕ, ◌+◌, ◌<◌, ◌==◌, List, [], filter, get_or, length, map, set, take, ap, sym, ◌∙◌, inl, inr, arith}
use Rattle.std.specs.List.{All, range_with_len}
use Rattle.std.specs.List.Sorted.{IsPermutation, IsSorted}
use Rattle.std.proofs.lemmas.Bool.{cases_Bool}
use Rattle.std.proofs.lemmas.List.{take_more}
use Rattle.tw_event.specs.declared.event.Event.{Event}
use Rattle.tw_event.specs.contracts.event.EventOrd.TheImpl as event_ord
use Rattle.tw_event.specs.Order.{event_before, event_same}
use Rattle.tw_event.proofs.Order.{same_self}
use Rattle.tw_sim.specs.Ordered.{times}
use Rattle.tw_sim.proofs.Counts.{is_order, times-filter-no, times-filter-yes}
use Rattle.tw_sim.proofs.Members.{all_from_in, times_in}
use Rattle.tw_sim.proofs.Ordered.{rising-insert_all, times-insert_all}
use Rattle.tw_sim.proofs.Rising.{rising-filter}
use Rattle.tw_model.specs.Case.{Case, IsCase, opening_events, simulation}
use Rattle.tw_model.specs.History.{state_after}
use Rattle.tw_model.specs.State.{Router, no_router, opening}
use Rattle.tw_model.proofs.Histories.{state_of_own}
use Rattle.tw_model.proofs.Lawful.{lawful}
use Rattle.tw_model.proofs.Within.{suits_within}
use Rattle.tw_handlers.specs.Calls.{after_event}
use Rattle.tw_ordered.proofs.Spares.{sorted_whole}
use Rattle.tw_seq.specs.Run.{router_after, routers_after}
use Rattle.tw_seq.specs.Turn.{receiver}
use Rattle.tw_seq.proofs.Handled.{get_or-routers, set-routers}
use Rattle.tw_policy.specs.Standing.{standing}
use Rattle.tw_policy.proofs.Standing.{handled_in_order}
use Rattle.tw_elimination.specs.Standing.{script_of, standing_router, standing_routers}

-- the opening events, sorted
pub script_sorted : (case : Case) (events sorted : List Event) → events ≡ opening_events case.scenes → IsPermutation events sorted → IsSorted event_ord.ghosts.cmp sorted
    → sorted ≡ script_of case
script_sorted case events sorted are same up =
    sorted_whole (opening_events case.scenes) [] sorted events tt
    (λ e. ap (times event_same e) are ∙ (let n = times event_same e (opening_events case.scenes) in omega arith)) same up

module _ (case : Case) (is : IsCase case) where
  -- how often an event stands in the script
  script_times : (e : Event) → times event_same e (script_of case) ≡ times event_same e (opening_events case.scenes)
  script_times e = let all = times-insert_all event_before event_same e (opening_events case.scenes) [] in omega arith

  pub script_homes : (events : List Event) → events ≡ script_of case → All (λ e. e.dst < case.net.nodes) events
  script_homes events are =
      let law = lawful case is in
      all_from_in (λ e. e.dst < case.net.nodes) events (λ e i.
      let there = times_in (simulation case) same_self e events i in
      let counted = ap (times event_same e) are in
      let same = script_times e in
      suits_within case.net e.dst e is.net (law.suit_opening e (omega arith)))

  -- the events of v in the script's order lead to how it stands
  pub stands : (v : ℕ) → state_after case.net v (opening case.net v) (filter (λ e. e.dst == v) (script_of case)) ≡ standing case v
  stands v =
      let law = lawful case is in
      let order = is_order (simulation case) law in
      let all = script_of case in
      let openings = opening_events case.scenes in
      sym (handled_in_order case is v (filter (λ e. e.dst == v) all)
      (rising-filter (simulation case) law (λ e. e.dst == v) all (rising-insert_all event_before event_same order openings [] tt))
      (λ e. elim (cases_Bool (e.dst == v)) [
        | inl b ↦ times-filter-yes (simulation case) law (λ x. x.dst == v) e all b ∙ (script_times e ∙ sym (times-filter-yes (simulation case) law (λ x. x.dst == v) e openings b))
        | inr b ↦ times-filter-no (simulation case) law (λ x. x.dst == v) e all b ∙ sym (times-filter-no (simulation case) law (λ x. x.dst == v) e openings b)
      ]))

  pub routers_stand : (events : List Event) (routers : List Router) → events ≡ script_of case → routers ≡ routers_after case events → routers ≡ standing_routers case
  routers_stand events routers are after =
      after ∙ (ap (routers_after case) are
      ∙ ap (λ (f : ℕ → Router). map f (range_with_len 0 case.net.nodes)) (λ i v. at v i)) where
        at : (v : ℕ) → router_after case (script_of case) v ≡ standing_router case v
        at v = ap (λ s. record { net = case.net; node = v; state = s }) (state_of_own case v (script_of case) ∙ stands v)

-- ---- one event more

pub home_at : (case : Case) (events : List Event) (k : ℕ) (d : Event) → All (λ e. e.dst < case.net.nodes) events → k < length events → (get_or events k d).dst < case.net.nodes
home_at case events k d all within = all k d within

pub receiver_net : (case : Case) (before : List Event) (routers : List Router) (e : Event) → routers ≡ routers_after case before → e.dst < case.net.nodes
    → (receiver routers e).net ≡ case.net
receiver_net case before routers e are within =
    ap (λ (xs : List Router). (get_or xs e.dst no_router).net) are ∙ ap (λ (x : Router). x.net) (get_or-routers case before e.dst no_router within)

pub one_handled : (case : Case) (events : List Event) (k : ℕ) (d : Event) (routers after : List Router) → k < length events → (get_or events k d).dst < case.net.nodes
    → routers ≡ routers_after case (take k events)
    → after ≡ set routers (get_or events k d).dst (after_event (receiver routers (get_or events k d)) (get_or events k d))
    → after ≡ routers_after case (take (k + 1) events)
one_handled case events k d routers after within home before is =
    let e = get_or events k d in
    let own : receiver routers e ≡ router_after case (take k events) e.dst
    = ap (λ (xs : List Router). get_or xs e.dst no_router) before ∙ get_or-routers case (take k events) e.dst no_router home in
    is ∙ (ap (λ (xs : List Router). set xs e.dst (after_event (receiver routers e) e)) before
    ∙ (ap (λ x. set (routers_after case (take k events)) e.dst (after_event x e)) own
    ∙ (set-routers case (take k events) e home ∙ ap (routers_after case) (sym (take_more events k d within)))))
