-- A router that handles its events of a run once more: each is for it, and no counter is full.
use Rattle.std.proofs.Common.{◌≡◌, ℕ, ◌≤◌, ◌<◌, ◌==◌, true, List, subst, arith, nat_le}
use Rattle.std.specs.List.{All}
use Rattle.std.proofs.lemmas.Bool.{and_from, eqb-true}
use Rattle.std.proofs.lemmas.Bool.Decides.{nat_tests}
use Rattle.tw_commands.proofs.RunPaths.{logged_suits}
use Rattle.tw_commands.specs.Trail.{events_at}
use Rattle.tw_event.specs.declared.event.Event.{Event}
use Rattle.tw_event.proofs.Order.{same_self}
use Rattle.tw_model.specs.declared.limits.TheConstants.{LATEST}
use Rattle.tw_model.specs.Case.{Case, IsCase, simulation}
use Rattle.tw_model.specs.Effect.{fits, suits}
use Rattle.tw_model.specs.History.{state_after}
use Rattle.tw_model.specs.Net.{Net}
use Rattle.tw_sim.specs.Seq.{log}
use Rattle.tw_sim.specs.Simulation.{times}
use Rattle.tw_model.specs.State.{IsCounted, IsState, Router, opening}
use Rattle.tw_sim.proofs.Closed.{running_seq}
use Rattle.tw_sim.proofs.Counts.{times-reverse}
use Rattle.tw_model.proofs.Histories.{state_of_own}
use Rattle.tw_model.proofs.Lawful.{lawful, numbered}
use Rattle.tw_sim.proofs.Members.{In, all_from_in, in_filter, times_in}
use Rattle.tw_seq.specs.Run.{complete_run, router_after}

module _ (case : Case) (is : IsCase case) where
  fits_run : (v t : ℕ) → t ≤ LATEST → (e : Event) → In e (events_at v (complete_run case t).events) → fits case.net v e ≡ true
  fits_run v t most e there =
      let m = simulation case in
      let of = in_filter (λ x. x.dst == v) e (complete_run case t).events there in
      let home : e.dst ≡ v = eqb-true e.dst v of.0 in
      let counted = times_in m same_self e (complete_run case t).events of.1 in
      let same = times-reverse m e (log m t) in
      let handled : 0 < times m e (log m t) = omega arith in
      let soon : e.time < t = (running_seq m (lawful case is) (numbered case is) t).soon e handled in
      let early : nat_le e.time LATEST ≡ true = grind (arith, nat_tests) in
      and_from (nat_le e.time LATEST) (suits case.net v e) early (subst (λ r. suits case.net r e ≡ true) home (logged_suits case is t e handled))

  -- each of its events is for the router
  pub run_fits : (v t : ℕ) → t ≤ LATEST → All (λ e. fits case.net v e ≡ true) (events_at v (complete_run case t).events)
  run_fits v t most = all_from_in (λ e. fits case.net v e ≡ true) (events_at v (complete_run case t).events) (fits_run v t most)

-- so its counters are within their limits then
pub run_counted : (case : Case) (v : ℕ) (events : List Event) (r : Router) → r ≡ router_after case events v → IsState r.net r.node r.state
    → IsCounted (state_after case.net v (opening case.net v) (events_at v events)).counters
run_counted case v events r is valid = subst (λ s. IsCounted s.counters) (state_of_own case v events) (rw is at valid).counters

-- the same of what is equal
pub same_fits : (net own : Net) (v w : ℕ) (events same : List Event) → own ≡ net → w ≡ v → same ≡ events → All (λ e. fits net v e ≡ true) events → All (λ e. fits own w e ≡ true) same
same_fits net own v w events same is_net is_node is_events all = rw (is_net, is_node, is_events) all

pub same_counted : (net own : Net) (v w : ℕ) (events same : List Event) → own ≡ net → w ≡ v → same ≡ events → IsCounted (state_after net v (opening net v) events).counters
    → IsCounted (state_after own w (opening own w) same).counters
same_counted net own v w events same is_net is_node is_events within = rw (is_net, is_node, is_events) within

pub same_events : (v w : ℕ) (events from list : List Event) → w ≡ v → from ≡ events → list ≡ events_at w from → list ≡ events_at v events
same_events v w events from list is_node is_from is = rw (← is_node, ← is_from) is
