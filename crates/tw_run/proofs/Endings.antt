-- What a run leaves that has come to its stop is what the one-thread run leaves.
use Rattle.std.proofs.Common.{◌≡◌, ℕ, ◌≤◌, Bool, true, false, List, [], ◌∷◌, map, reverse, refl, ap, sym, ◌∙◌, arith}
use Rattle.std.proofs.lemmas.List.{reverse-reverse}
use Rattle.std.proofs.lemmas.Simd.{map-map}
use Rattle.std.specs.List.{AllByRecursion, range_with_len}
use Rattle.tw_commands.specs.Seq.{shown}
use Rattle.tw_event.specs.declared.event.Event.{Event}
use Rattle.tw_model.proofs.Lawful.{lawful, numbered}
use Rattle.tw_model.specs.Case.{Case, IsCase, simulation}
use Rattle.tw_model.specs.Quiet.{last_change}
use Rattle.tw_model.specs.Summary.{Summary, end_of}
use Rattle.tw_parallel.specs.Settled.{logged, states_at}
use Rattle.tw_seq.specs.Outcome.{least, outcome_of}
use Rattle.tw_seq.specs.Run.{complete_run, router_after}
use Rattle.tw_sim.proofs.Closed.{rest_late}
use Rattle.tw_sim.proofs.Counts.{is_order}
use Rattle.tw_sim.proofs.Ordered.{all_counted}
use Rattle.tw_sim.specs.Seq.{at, log, rest}
use Rattle.tw_sim.specs.Simulation.{only, state}

least_late : (es : List Event) (t : ℕ) → AllByRecursion (λ e. t ≤ e.time) es → least es t ≡ t
least_late [] t all = refl
least_late (e ∷ es) t all = let more = least_late es t all.1 in let first = all.0 in omega arith

-- what is pending at a stop is not before it
none_before : (case : Case) → IsCase case → (stop : ℕ) → least (rest (simulation case) stop) stop ≡ stop
none_before case is stop =
    let m = simulation case in
    let law = lawful case is in
    least_late (rest m stop) stop (all_counted m.before m.same (is_order m law) (λ e. stop ≤ e.time) (rest m stop) (λ e there. rest_late m law (numbered case is) stop e there))

-- how the routers stand
ends : (case : Case) (stop : ℕ)
    → map end_of (states_at case stop) ≡ map (λ r. end_of (router_after case (reverse (log (simulation case) stop)) r).state) (range_with_len 0 case.net.nodes)
ends case stop =
    let m = simulation case in
    map-map end_of (at m stop) (range_with_len 0 case.net.nodes)
    ∙ ap (λ es. map (λ r. end_of (state m r (only m r es))) (range_with_len 0 case.net.nodes)) (sym (reverse-reverse (log m stop)))

-- the time of the last change
change : (case : Case) (stop : ℕ) → last_change case (log (simulation case) stop) ≡ last_change case (reverse (reverse (log (simulation case) stop)))
change case stop = ap (last_change case) (sym (reverse-reverse (log (simulation case) stop)))

-- an outcome of these parts shows the run to the stop
pub outcome_told : (case : Case) → IsCase case → (stop : ℕ) (log_it : Bool) (o : Summary) → o.stop ≡ stop → o.bound ≡ stop → o.events ≡ logged log_it case stop
    → o.routers ≡ map end_of (states_at case stop) → o.pending ≡ rest (simulation case) stop → o.last_change ≡ last_change case (log (simulation case) stop)
    → o ≡ shown log_it (outcome_of (complete_run case stop))
outcome_told case is stop true o a b c d e f =
    λ i. record {
      stop = a i;
      bound = (b ∙ sym (none_before case is stop)) i;
      events = c i;
      routers = (d ∙ ends case stop) i;
      pending = e i;
      last_change = (f ∙ change case stop) i;
    }
outcome_told case is stop false o a b c d e f =
    λ i. record {
      stop = a i;
      bound = (b ∙ sym (none_before case is stop)) i;
      events = c i;
      routers = (d ∙ ends case stop) i;
      pending = e i;
      last_change = (f ∙ change case stop) i;
    }
