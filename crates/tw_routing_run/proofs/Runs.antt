-- A run of a case as a model is a run of the case's own simulation.
use Rattle.std.proofs.Common.{◌≡◌, ℕ, List, max, ap, arith, subst, ◌∙◌}
use Rattle.tw_event.specs.declared.event.Event.{Event}
use Rattle.tw_model.specs.Case.{Case, simulation}
use Rattle.tw_model.specs.State.{Router, State}
use Rattle.tw_routing.specs.Routing.{IsRouterOf}
use Rattle.tw_rounds.specs.Warp.{HasRun, IsOpening, IsRight, Warp}
use Rattle.tw_rounds.specs.Warp as warp
use Rattle.tw_routing_run.specs.Ending.{GetsStuck, IsComplete, IsHeldUp, router_after}
use Rattle.tw_sequential.specs.Run.{IsBegun, IsStuck, Run, complete_run, opening_run}
use Rattle.tw_sim.specs.Simulation.{Simulation, only, state}

module _ (sim : Case → Simulation State Event) (case : Case) (same : sim case ≡ simulation case) where
  -- a run that was opened and has come to its stop
  pub completed : (stop : ℕ) (opened ended : Run Case Event) → opened ≡ opening_run (sim case) case
      → ended ≡ complete_run (sim opened.model) opened.model (max opened.stop stop) → ended ≡ complete_run (simulation case) case stop
  completed stop opened ended from to =
      let most : max 0 stop ≡ stop = omega arith in
      to
      ∙ (ap (λ x. complete_run (sim x.model) x.model (max x.stop stop)) from
      ∙ (ap (complete_run (sim case) case) most ∙ ap (λ m. complete_run m case stop) same))

  -- a run that was opened and does not come to its stop, since a counter is full
  pub stuck_there : (stop : ℕ) (opened ended : Run Case Event) → opened ≡ opening_run (sim case) case → ended.model ≡ opened.model → ended.stop ≡ max opened.stop stop
      → IsBegun (sim opened.model) ended → IsStuck (sim opened.model) ended → GetsStuck case stop
  stuck_there stop opened ended from model to begun stuck =
      let is : opened.model ≡ case = ap (λ x. x.model) from in
      let most : max 0 stop ≡ stop = omega arith in
      record {
        run = ended;
        own = model ∙ is;
        to_stop = to ∙ (ap (λ x. max x.stop stop) from ∙ most);
        begun = subst (λ m. IsBegun m ended) (ap sim is ∙ same) begun;
        stuck = subst (λ m. IsStuck m ended) (ap sim is ∙ same) stuck;
      }

  -- a router that knows what its events lead to
  pub is_router : (r : ℕ) (router : Router) (log : List Event) → IsRouterOf case r router → router.state ≡ state (sim case) r (only (sim case) r log)
      → router ≡ router_after case log r
  is_router r router log own known = λ i. record { net = own.net i; node = own.node i; state = (known ∙ ap (λ m. state m r (only m r log)) same) i }

  -- a run in threads that was opened and has come to its stop
  pub completed_there : (stop : ℕ) (opened ended : Warp Case Event) → IsOpening (sim case) case opened → ended.model ≡ opened.model → ended.stop ≡ max opened.stop stop
      → ended.bound ≡ ended.stop → HasRun (sim opened.model) ended → IsComplete case stop ended
  completed_there stop opened ended from model to there has_run =
      let most : max 0 stop ≡ stop = omega arith in
      record {
        own = model ∙ from.same;
        to_stop = to ∙ (ap (λ x. max x stop) from.stop ∙ most);
        there = there;
        has_run = subst (λ m. HasRun m ended) (ap sim from.same ∙ same) has_run;
      }

  -- a run in threads that was opened and does not come to its stop, since a counter is full
  pub held_up_there : (stop : ℕ) (opened ended : Warp Case Event) → IsOpening (sim case) case opened → ended.model ≡ opened.model → ended.stop ≡ max opened.stop stop
      → IsRight (sim opened.model) ended → warp.IsStuck (sim opened.model) ended → IsHeldUp case stop
  held_up_there stop opened ended from model to right stuck =
      let most : max 0 stop ≡ stop = omega arith in
      record {
        run = ended;
        own = model ∙ from.same;
        to_stop = to ∙ (ap (λ x. max x stop) from.stop ∙ most);
        right = subst (λ m. IsRight m ended) (ap sim from.same ∙ same) right;
        stuck = subst (λ m. warp.IsStuck m ended) (ap sim from.same ∙ same) stuck;
      }
