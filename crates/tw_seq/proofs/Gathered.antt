-- The shape of a run at its stop is what is gathered from its routers and pending events.
use Rattle.std.proofs.Common.{◌≡◌, ℕ, List, [], ◌∷◌, ◌++◌, map, reverse, slice_index, refl, ap, sym, ◌∙◌}
use Rattle.std.specs.List.{range_with_len}
use Rattle.std.proofs.lemmas.List.{reverse-reverse}
use Rattle.tw_event.specs.declared.event.Event.{Event}
use Rattle.tw_model.specs.Case.{Case, IsCase, simulation}
use Rattle.tw_model.specs.State.{Router}
use Rattle.tw_event.specs.Order.{event_before}
use Rattle.tw_sim.specs.Ordered.{insert_all}
use Rattle.tw_sim.specs.Seq.{at, log}
use Rattle.tw_sim.specs.Simulation.{only, state}
use Rattle.tw_shape.specs.Shape.{Draft, Shape, bare, seen_from, shape}
use Rattle.tw_shape.proofs.Stillness.{gathered}
use Rattle.tw_seq.specs.Run.{Run, complete_run, router_after, routers_after}

module _ (case : Case) (t : ℕ) (events : List Event) (whole : reverse events ≡ log (simulation case) t) where
  all_bare : (xs : List ℕ) → map (λ r. bare r.state) (map (router_after case events) xs) ≡ map bare (map (at (simulation case) t) xs)
  all_bare [] = refl
  all_bare (x ∷ xs) =
      let head : bare (router_after case events x).state ≡ bare (at (simulation case) t x) = ap (λ l. bare (state (simulation case) x (only (simulation case) x l))) whole in
      let tail = all_bare xs in
      cc

  all_sent : (xs : List ℕ) → map (λ r. r.state.counters.sent) (map (router_after case events) xs) ≡ map (λ s. s.counters.sent) (map (at (simulation case) t) xs)
  all_sent [] = refl
  all_sent (x ∷ xs) =
      let head : (router_after case events x).state.counters.sent ≡ (at (simulation case) t x).counters.sent
      = ap (λ l. (state (simulation case) x (only (simulation case) x l)).counters.sent) whole in
      let tail = all_sent xs in
      cc

pub shape_of_run : (run : Run) → IsCase run.case → run ≡ complete_run run.case run.stop → (routers : List Router) → routers ≡ routers_after run.case run.events
    → (fresh draft : Draft) → fresh ≡ record { time = run.stop; routers = []; sent = [] }
    → draft ≡ record fresh { routers = fresh.routers ++ map (λ r. bare r.state) routers; sent = fresh.sent ++ map (λ r. r.state.counters.sent) routers }
    → (pending : List Event) → insert_all event_before pending [] ≡ run.pending → (s : Shape)
    → s ≡ record { routers = draft.routers; pending = map (λ e. seen_from draft.time (slice_index draft.sent e.src) e) (insert_all event_before pending []) }
    → s ≡ shape run.case run.stop
shape_of_run run is whole routers are fresh draft is_fresh is_draft pending is_pending s made =
    let m = simulation run.case in
    let nodes = range_with_len 0 run.case.net.nodes in
    let back : reverse run.events ≡ log m run.stop = ap (λ r. reverse r.events) whole ∙ reverse-reverse (log m run.stop) in
    let bares = all_bare run.case run.stop run.events back nodes in
    let sents = all_sent run.case run.stop run.events back nodes in
    let as_draft = rw (is_fresh, are, bares, sents) at is_draft in
    let waiting = is_pending ∙ ap (λ r. r.pending) whole in
    rw (as_draft, waiting) at made ∙ sym (gathered run.case is run.stop)
