-- Every pending event of a run suits one of its routers.
use Rattle.std.proofs.Common.{◌≡◌, ℕ, ◌+◌, ◌<◌, true, List, [], ◌∷◌, ◌++◌, ap, sym, subst, arith, Some, slice_get}
use Rattle.std.specs.List.{AllByRecursion}
use Rattle.tw_event.specs.declared.event.Event.{Event}
use Rattle.tw_model.specs.Case.{Case, IsCase, opening_events, simulation}
use Rattle.tw_model.specs.Effect.{suits}
use Rattle.tw_sim.specs.Seq.{begin, insert_all, turns}
use Rattle.tw_sim.specs.Simulation.{IsLawful, times}
use Rattle.tw_sim.proofs.Counts.{in_head, is_order, times-insert_all}
use Rattle.tw_sim.proofs.Ordered.{all_counted}
use Rattle.tw_sim.proofs.Rising.{AllSuit, suit-begin, suit-turns}
use Rattle.tw_model.proofs.Lawful.{lawful}
use Rattle.tw_model.proofs.Within.{suits_within}
use Rattle.tw_seq.specs.Run.{IsBegun, IsNext, Run, router_after, world}
use Rattle.tw_handlers.specs.Calls.{effect_at}
use Rattle.tw_seq.proofs.Steps.{goes_on, pushed}

-- the events of a prefix of a run suit their routers
pub all_suit : (run : Run) → IsLawful (simulation run.case) → IsBegun run → AllSuit (simulation run.case) (world run)
all_suit run law h =
    let m = simulation run.case in
    subst (AllSuit m) h.turns.1 (suit-turns m law h.turns.0 run.stop (begin m) (suit-begin m law))

-- the least pending event suits its router
pub least_suits : (run : Run) (e : Event) (later : List Event) → IsLawful (simulation run.case) → IsBegun run → run.pending ≡ e ∷ later → suits run.case.net e.dst e ≡ true
least_suits run e later law h is =
    let m = simulation run.case in
    (all_suit run law h).pending e (subst (λ xs. 0 < times m e xs) (sym is) (in_head m law e later))

-- it is for a router that is there
pub next_home : (run : Run) (e : Event) → IsBegun run → IsNext run e → e.dst < run.case.net.nodes
next_home run e begun next =
    suits_within run.case.net e.dst e begun.case.net (least_suits run e next.0 (lawful run.case begun.case) begun next.1)

-- what the least pending event sends
abbrev pub sends_of : Run → Event → List Event
sends_of run e = (effect_at (router_after run.case run.events e.dst) e).sends

-- the run once it has handled its least pending event
abbrev pub next_run : Run → Event → List Event → Run
next_run run e later = record run { events = run.events ++ e ∷ []; pending = insert_all (simulation run.case) (sends_of run e) later }

-- a turn to a time that is later handles it
pub next_world : (run : Run) (e : Event) (later : List Event) (t : ℕ) → run.pending ≡ e ∷ later → e.time < t
    → turns (simulation run.case) 1 t (world run) ≡ world (next_run run e later)
next_world run e later t is soon = rw is (pushed (simulation run.case) t run.events e later soon)

pub next_begun : (run : Run) (e : Event) (later : List Event) → IsBegun run → run.pending ≡ e ∷ later → e.time < run.stop → IsBegun (next_run run e later)
next_begun run e later h is soon = record {
  case = h.case;
  turns = (h.turns.0 + 1, goes_on (simulation run.case) h.turns.0 1 run.stop (world run) (world (next_run run e later)) h.turns.1 (next_world run e later run.stop is soon));
}

-- each of its sends is for one of the routers
pub sends_home : (run : Run) (e : Event) (later : List Event) → IsLawful (simulation run.case) → IsBegun run → run.pending ≡ e ∷ later → e.time < run.stop
    → AllByRecursion (λ x. x.dst < run.case.net.nodes) (sends_of run e)
sends_home run e later law h is soon =
    let m = simulation run.case in
    let after = all_suit (next_run run e later) law (next_begun run e later h is soon) in
    all_counted m.before m.same (is_order m law) (λ x. x.dst < run.case.net.nodes) (sends_of run e) (λ x there.
    let counts = times-insert_all m x (sends_of run e) later in
    suits_within run.case.net x.dst x h.case.net (after.pending x (omega arith)))

-- each opening event is for one of the routers
pub opening_home : (case : Case) → IsLawful (simulation case) → IsCase case → AllByRecursion (λ x. x.dst < case.net.nodes) (opening_events case.scenes)
opening_home case law h =
    all_counted (simulation case).before (simulation case).same (is_order (simulation case) law) (λ x. x.dst < case.net.nodes) (opening_events case.scenes)
    (λ x there. suits_within case.net x.dst x h.net (law.suit_opening x there))

pub homes_at : (case : Case) (routers : ℕ) (events : List Event) → IsLawful (simulation case) → IsCase case → events ≡ opening_events case.scenes → routers ≡ case.net.nodes
    → AllByRecursion (λ x. x.dst < routers) events
homes_at case routers events law h are count =
    subst (λ n. AllByRecursion (λ x. x.dst < n) events) (sym count) (subst (AllByRecursion (λ x. x.dst < case.net.nodes)) (sym are) (opening_home case law h))

-- what stands first
pub first_is : (xs : List Event) (e : Event) → Some e ≡ slice_get xs 0 → (later : List Event) × (xs ≡ e ∷ later)
first_is [] e h = absurd (cc)
first_is (x ∷ xs) e h = let same : e ≡ x = cc in (xs, ap (λ y. y ∷ xs) (sym same))
