-- What is noted of the routers of a one-thread run, and what shards have of them.
use Rattle.std.proofs.Common.{◌≡◌, ℕ, ◌==◌, Bool, true, List, reverse, slice_get, ap, sym, ◌∙◌}
use Rattle.std.proofs.lemmas.List.{reverse-reverse}
use Rattle.tw_event.specs.declared.event.Event.{Event}
use Rattle.tw_model.proofs.Histories.{filter-reverse}
use Rattle.tw_model.specs.Case.{Case, IsCase, simulation}
use Rattle.tw_model.specs.Quiet.{last_change}
use Rattle.tw_model.specs.State.{Router, State}
use Rattle.tw_parallel.proofs.Changes.{last_own}
use Rattle.tw_seq.specs.declared.traced_run.RouterTrace.{RouterTrace}
use Rattle.tw_seq.specs.Run.{complete_run, router_after}
use Rattle.tw_seq.specs.Traced.{handled_by, trace_after}
use Rattle.tw_shard.proofs.Shares.{known_state}
use Rattle.tw_shard.specs.Cut.{IsRouterOf, timeline_at}
use Rattle.tw_shard.specs.declared.router_at.RouterAt.{RouterAt}
use Rattle.tw_shard.specs.Past.{own_run}
use Rattle.tw_shard.specs.Timeline.{Timeline, history, known, last_change_at, router_of}
use Rattle.tw_sim.specs.Seq.{log}
use Rattle.tw_sim.specs.Simulation.{only, state}

module _ (case : Case) (is : IsCase case) (time r : ℕ) where
  abbrev events : List Event
  events = (complete_run case time).events

  -- what a router has handled
  handled_is : handled_by case events r ≡ own_run case r time
  handled_is = ap (only (simulation case) r) (reverse-reverse (log (simulation case) time))

  -- and in the order in which it has
  log_is : only (simulation case) r events ≡ reverse (own_run case r time)
  log_is = filter-reverse (λ (e : Event). (simulation case).dst e == r) (log (simulation case) time)

  trace_is : trace_after case events r ≡ record { newest = slice_get (own_run case r time) 0; change = last_change_at case.net r (own_run case r time) }
  trace_is =
      let handled = handled_is in
      let change : last_change case (handled_by case events r) ≡ last_change_at case.net r (own_run case r time)
      = ap (last_change case) handled ∙ last_own case is r (log (simulation case) time) in
      λ i. record { newest = slice_get (handled i) 0; change = change i }

  router_is : router_after case events r ≡ record { net = case.net; node = r; state = known case.net r (own_run case r time) }
  router_is =
      let same : state (simulation case) r (handled_by case events r) ≡ known case.net r (own_run case r time)
      = ap (state (simulation case) r) handled_is ∙ sym (known_state case r (own_run case r time)) in
      λ i. record { net = case.net; node = r; state = same i }

  -- a router of the run comes to a shard
  pub comes : (retains : Bool) (x : RouterAt) → x.router ≡ router_after case events r → record { newest = x.newest; change = x.last_change } ≡ trace_after case events r
      → (retains ≡ true → x.events.items ≡ only (simulation case) r events) → IsRouterOf (timeline_at case retains time r) x
  comes retains x router trace log =
      let told = trace ∙ trace_is in
      record {
        router = router ∙ router_is;
        events = λ kept. log kept ∙ log_is;
        newest = ap (λ (t : RouterTrace). t.newest) told;
        change = ap (λ (t : RouterTrace). t.change) told;
      }

  module _ (t : Timeline) (x : RouterAt) (net : t.net ≡ case.net) (node : t.node ≡ r) (run : history t ≡ own_run case r time) (of : IsRouterOf t x) where
    -- a router that leaves a shard is that of the run
    pub leaves_router : x.router ≡ router_after case events r
    leaves_router = of.router ∙ ((λ i. record { net = net i; node = node i; state = known (net i) (node i) (run i) }) ∙ sym router_is)

    pub leaves_trace : record { newest = x.newest; change = x.last_change } ≡ trace_after case events r
    leaves_trace =
        let newest = of.newest ∙ ap (λ h. slice_get h 0) run in
        let change = of.change ∙ (λ i. last_change_at (net i) (node i) (run i)) in
        (λ i. record { newest = newest i; change = change i }) ∙ sym trace_is

    pub leaves_log : t.retains ≡ true → x.events.items ≡ only (simulation case) r events
    leaves_log kept = of.events kept ∙ (ap reverse run ∙ sym log_is)
