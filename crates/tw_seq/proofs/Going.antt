-- Going on with a run: its stop is raised, events are handled, and at the end no event before the stop is pending.
use Rattle.std.proofs.Common.{◌≡◌, ℕ, ◌+◌, ◌<◌, ◌≤◌, min, true, false, List, [], ◌∷◌, map, reverse, get_or, refl, ap, sym, ◌∙◌, subst, inl, inr, arith}
use Rattle.std.specs.List.{range_with_len}
use Rattle.std.proofs.lemmas.Bool.{cases_Bool}
use Rattle.std.proofs.lemmas.List.{reverse-reverse}
use Rattle.std.proofs.lemmas.Simd.{map-map}
use Rattle.tw_event.specs.declared.event.Event.{Event}
use Rattle.tw_model.specs.declared.outcome.RouterEnd.{RouterEnd}
use Rattle.tw_model.specs.Case.{Case, simulation}
use Rattle.tw_sim.specs.Seq.{World, begin, seq, turns, weight}
use Rattle.tw_sim.specs.Simulation.{Simulation, IsLawful, times}
use Rattle.tw_model.specs.State.{Router, State}
use Rattle.tw_model.proofs.Lawful.{lawful}
use Rattle.tw_sim.proofs.Rising as rising
use Rattle.tw_sim.proofs.Rising.{rising-begin, rising-turns}
use Rattle.tw_sim.proofs.Seq as model
use Rattle.tw_sim.proofs.Seq.{turns-add, turns_later, weight-turn}
use Rattle.tw_model.specs.Summary.{end_of}
use Rattle.tw_seq.specs.Outcome.{least}
use Rattle.tw_seq.specs.Run.{Continues, IsBegun, IsNext, IsNextRun, NoneBefore, Run, complete_run, router_after, routers_after, world}
use Rattle.tw_seq.proofs.Handled.{get_or-routers}
use Rattle.tw_seq.proofs.Steps.{is_whole}

-- a run is a prefix of the run to each later stop
pub begun_later : (run : Run) (stop : ℕ) → run.stop ≤ stop → IsBegun run → IsBegun (record run { stop = stop })
begun_later run stop le h =
    let m = simulation run.case in
    let k = turns_later m h.turns.0 run.stop stop (begin m) le in
    record { case = h.case; turns = (k.0, k.1 ∙ h.turns.1) }

pub continues_next : (a b c : Run) → b.case ≡ a.case → Continues a b → IsNextRun b c → Continues a c
continues_next a b c same h next =
    let m = simulation a.case in
    let one : turns m 1 b.stop (world b) ≡ world c = subst (λ case. turns (simulation case) 1 b.stop (world b) ≡ world c) same next.2 in
    let both = sym (turns-add m h.0 1 b.stop (world a)) ∙ (ap (λ w. turns m 1 b.stop w) h.1 ∙ one) in
    (h.0 + 1, subst (λ t. turns m (h.0 + 1) t (world a) ≡ world c) (sym next.1) both)

-- each event handled leaves less to do
pub weight_next : (b c : Run) (e : Event) → IsBegun b → IsNext b e → IsNextRun b c → weight (simulation c.case) c.stop c.pending < weight (simulation b.case) b.stop b.pending
weight_next b c e h first next =
    let m = simulation b.case in
    let w : World Event = record { log = reverse b.events; rest = e ∷ first.0 } in
    let fewer = weight-turn m (lawful b.case h.case) b.stop (reverse b.events) e first.0 first.2 in
    let from : turns m 1 b.stop w ≡ world c = subst (λ events. turns m 1 b.stop (record { log = reverse b.events; rest = events }) ≡ world c) first.1 next.2 in
    let left : weight m b.stop c.pending < weight m b.stop (e ∷ first.0) = subst (λ v. weight m b.stop v.rest < weight m b.stop (e ∷ first.0)) from fewer in
    let left_now : weight m b.stop c.pending < weight m b.stop b.pending = subst (λ events. weight m b.stop c.pending < weight m b.stop events) (sym first.1) left in
    subst (λ case. weight (simulation case) c.stop c.pending < weight m b.stop b.pending) (sym next.0)
    (subst (λ t. weight m t c.pending < weight m b.stop b.pending) (sym next.1) left_now)

over_too : (case : Case) (stop : ℕ) (events : List Event) → NoneBefore stop events → model.IsOver (simulation case) stop events
over_too case stop [] h = h
over_too case stop (e ∷ events) h = h

-- a run with nothing pending before its stop is complete
pub complete_at : (run : Run) → IsBegun run → NoneBefore run.stop run.pending → run ≡ complete_run run.case run.stop
complete_at run h none =
    let m = simulation run.case in
    let whole = is_whole m (lawful run.case h.case) h.turns.0 run.stop (world run) h.turns.1 (over_too run.case run.stop run.pending none) in
    let events : run.events ≡ reverse (seq m run.stop).log = sym (reverse-reverse run.events) ∙ ap (λ w. reverse w.log) whole in
    λ i. record { case = run.case; stop = run.stop; events = events i; pending = (whole i).rest }

least_past : (events : List Event) (k t : ℕ) (m : Simulation State Event) → ((x : Event) → 0 < times m x events → k ≤ x.time) → ((x : Event) → m.same x x ≡ true)
    → min k (least events t) ≡ min k t
least_past [] k t m h self = refl
least_past (e ∷ events) k t m h self =
    let own : 0 < times m e (e ∷ events) = rw (self e) (omega arith) in
    let first = h e own in
    let others = least_past events k t m (λ x there. h x (omega arith)) self in
    omega arith

begun_rising : (run : Run) → IsBegun run → rising.IsRising (simulation run.case) run.pending
begun_rising run h =
    let m = simulation run.case in
    let law = lawful run.case h.case in
    subst (λ w. rising.IsRising m w.rest) h.turns.1 (rising-turns m law h.turns.0 run.stop (begin m) (rising-begin m law))

no_sooner : (m : Simulation State Event) → IsLawful m → (e x : Event) → m.before x e ≡ false → m.time e ≤ m.time x
no_sooner m law e x h =
    elim (cases_Bool (m.before e x)) [
      | inl b ↦ law.timely e x b
      | inr b ↦ let same = ap m.time (law.total e x b h) in omega arith
    ]

-- the least of what is pending stands first
least_is : (case : Case) (e : Event) (later : List Event) (t : ℕ) → IsLawful (simulation case) → rising.IsRising (simulation case) (e ∷ later) → least (e ∷ later) t ≡ min e.time t
least_is case e later t law r =
    least_past later e.time t (simulation case) (λ x there. no_sooner (simulation case) law e x (r.0 x there)) law.same_self

pub bound_first : (run : Run) (e : Event) → IsBegun run → IsNext run e → e.time ≡ least run.pending run.stop
bound_first run e h next =
    let up = subst (λ events. rising.IsRising (simulation run.case) events) next.1 (begun_rising run h) in
    let first = least_is run.case e next.0 run.stop (lawful run.case h.case) up in
    let soon = next.2 in
    let bound : e.time ≡ least (e ∷ next.0) run.stop = omega arith in
    bound ∙ ap (λ events. least events run.stop) (sym next.1)

bound_late : (case : Case) (events : List Event) (t : ℕ) → IsLawful (simulation case) → rising.IsRising (simulation case) events → NoneBefore t events
    → t ≡ least events t
bound_late case [] t law r h = refl
bound_late case (e ∷ later) t law r h = let first = least_is case e later t law r in omega arith

pub bound_over : (run : Run) → IsBegun run → NoneBefore run.stop run.pending → run.stop ≡ least run.pending run.stop
bound_over run h none = bound_late run.case run.pending run.stop (lawful run.case h.case) (begun_rising run h) none

-- every router of the run
pub router_of : (case : Case) (events : List Event) (routers : List Router) (r : ℕ) (d : Router) → routers ≡ routers_after case events → r < case.net.nodes
    → get_or routers r d ≡ router_after case events r
router_of case events routers r d are below = ap (λ rs. get_or rs r d) are ∙ get_or-routers case events r d below

pub ends_of : (case : Case) (events : List Event) (routers : List Router) (ends : List RouterEnd) → routers ≡ routers_after case events → ends ≡ map (λ (r : Router). end_of r.state) routers
    → ends ≡ map (λ r. end_of (router_after case events r).state) (range_with_len 0 case.net.nodes)
ends_of case events routers ends are h =
    h ∙ (ap (map (λ (r : Router). end_of r.state)) are ∙ map-map (λ (r : Router). end_of r.state) (router_after case events) (range_with_len 0 case.net.nodes))
