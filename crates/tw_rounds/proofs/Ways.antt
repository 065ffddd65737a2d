-- What a run tells, whichever way it goes on.
use Rattle.std.proofs.Common.{◌≡◌, ℕ, zero, suc, ◌+◌, ◌<◌, ◌≤◌, ◌==◌, true, [], ◌∷◌, Option, Some, None, slice_get, refl, ap, sym, ◌∙◌, subst, inl, inr, arith}
use Rattle.std.proofs.lemmas.Bool.{cases_lt, eq-eqb}
use Rattle.std.specs.Option.{option_map_or}
use Rattle.tw_core.specs.Steps.{first_pending}
use Rattle.tw_engine.specs.Process.{history, process_core}
use Rattle.tw_rounds.proofs.Lone.{alone_right, bound-le, is_complete, pending_suits, rising_rest}
use Rattle.tw_rounds.specs.Alone.{IsAlone, bound_of, first_time}
use Rattle.tw_rounds.specs.Warp as spec
use Rattle.tw_rounds.specs.Warp.{GoesOneWay, HasRun, IsOpening, IsRight, IsStuck, Warp, bound_in, process_of, processes_from, processes_in}
use Rattle.tw_sequential.specs.Run.{IsNext, Run}
use Rattle.tw_sim.proofs.Counts.{in_head}
use Rattle.tw_sim.proofs.Least.{least_rising}
use Rattle.tw_sim.proofs.Rising.{rising-filter}
use Rattle.tw_sim.specs.Seq.{log}
use Rattle.tw_sim.specs.Simulation.{Simulation, IsLawful, below, only, state, times}

module _ {S M E : Type 0} (m : Simulation S E) where
  -- the run that a user sees
  abbrev pub seen : M → ℕ → Option (Run M E) → Option (Warp M E) → Warp M E
  seen model stop alone rounds = record { model = model; stop = stop; bound = bound_in m alone rounds; processes = processes_in m alone rounds }

  process_there : (run : Run M E) (n k r : ℕ) → r < n → slice_get (processes_from m run n k) r ≡ Some (process_of m run (k + r))
  process_there run zero k r l = absurd (omega (arith, l))
  process_there run (suc n) k zero l = ap (λ j. Some (process_of m run j)) (omega arith)
  process_there run (suc n) k (suc r) l = process_there run n (suc k) r (omega (arith, l)) ∙ ap (λ j. Some (process_of m run j)) (omega arith)

  none_there : (run : Run M E) (n k r : ℕ) → n ≤ r → slice_get (processes_from m run n k) r ≡ None
  none_there run zero k r l = refl
  none_there run (suc n) k zero l = absurd (omega (arith, l))
  none_there run (suc n) k (suc r) l = none_there run n (suc k) r (omega (arith, l))

  -- what a process has handled that one thread alone brings on
  pub handled_alone : (model : M) (stop : ℕ) (run : Run M E) (rounds : Option (Warp M E)) (r : ℕ) → r < m.routers → spec.handled r (seen model stop (Some run) rounds) ≡ only m r run.log
  handled_alone model stop run rounds r l = ap (λ o. option_map_or history o []) (process_there run m.routers 0 r l) ∙ ap (λ k. only m k run.log) (omega arith)

  pub none_handled : (model : M) (stop : ℕ) (run : Run M E) (rounds : Option (Warp M E)) → run.log ≡ [] → (r : ℕ) → spec.handled r (seen model stop (Some run) rounds) ≡ []
  none_handled model stop run rounds none r = elim (cases_lt r m.routers) [
    | inl l ↦ handled_alone model stop run rounds r l ∙ ap (only m r) none
    | inr ge ↦ ap (λ o. option_map_or history o []) (none_there run m.routers 0 r ge)
  ]

  module _ (law : IsLawful m) (model : M) (stop : ℕ) (run : Run M E) (rounds : Option (Warp M E)) (since n : ℕ) (kept : IsAlone m run since n) where
    pub right_alone : IsRight m (seen model stop (Some run) rounds)
    right_alone r l = ap (below m (bound_of m run)) (handled_alone model stop run rounds r l) ∙ alone_right m law run since n kept r

    pub complete_alone : run.stop ≤ stop → bound_of m run ≡ stop → HasRun m (seen model stop (Some run) rounds)
    complete_alone within last r l =
        let le = bound-le m run in
        let same : run.stop ≡ stop = omega (arith, le, within, last) in
        let whole = is_complete m law run since n kept (last ∙ sym same) in
        handled_alone model stop run rounds r l ∙ (ap (λ v. only m r v.log) whole ∙ ap (λ t. only m r (log m t)) same)

  pub opens_alone : (model : M) (run : Run M E) → run.stop ≡ 0 → run.log ≡ [] → IsOpening m model (seen model 0 (Some run) None)
  opens_alone model run stop none = record {
    same = refl;
    stop = refl;
    bound = (let le = bound-le m run in omega (arith, le, stop));
    none = none_handled model 0 run None none;
  }

  -- it goes on alone, or else in rounds
  pub one_way : (model : M) (stop : ℕ) (run : Run M E) (rounds : Option (Warp M E)) → GoesOneWay m model stop (Some run) rounds → (run.model ≡ model) × (run.stop ≤ stop)
  one_way model stop run None h = h
  one_way model stop run (Some v) h = absurd h

  pub in_rounds : (model : M) (stop : ℕ) (alone : Option (Run M E)) (v : Warp M E) → GoesOneWay m model stop alone (Some v) → (alone ≡ None) × (v.model ≡ model) × (v.stop ≤ stop)
  in_rounds model stop None v h = (refl, h.0, h.1)
  in_rounds model stop (Some run) v h = absurd h

  pub by_alone : (model : M) (stop : ℕ) (run : Run M E) (rounds : Option (Warp M E)) → GoesOneWay m model stop (Some run) rounds → rounds ≡ None
  by_alone model stop run None h = refl
  by_alone model stop run (Some v) h = absurd h

  pub no_way : (model : M) (stop : ℕ) (alone : Option (Run M E)) (rounds : Option (Warp M E)) → GoesOneWay m model stop alone rounds
      → ((run : Run M E) → alone ≡ Some run → ⊥) → ((v : Warp M E) → rounds ≡ Some v → ⊥) → ⊥
  no_way model stop (Some run) rounds h apart other = apart run refl
  no_way model stop None (Some v) h apart other = other v refl
  no_way model stop None None h apart other = h

  -- ---- a full counter

  module _ (law : IsLawful m) (model : M) (stop : ℕ) (run : Run M E) (rounds : Option (Warp M E)) (since n : ℕ) (kept : IsAlone m run since n) (e : E) (next : IsNext m run e) where
    own_next : only m (m.dst e) run.rest ≡ e ∷ only m (m.dst e) next.0
    own_next = ap (only m (m.dst e)) next.1 ∙ (let here = eq-eqb (m.dst e) (m.dst e) refl in rw here refl)

    first_next : first_pending m (process_core (bound_of m run) (process_of m run (m.dst e))) (m.dst e) ≡ Some e
    first_next =
        let rest = only m (m.dst e) run.rest in
        least_rising m law (only m (m.dst e) rest) (rising-filter m law (λ x. m.dst x == m.dst e) rest (rising-filter m law (λ x. m.dst x == m.dst e) run.rest (rising_rest m law run kept.begun)))
        ∙ (ap (λ xs. slice_get (only m (m.dst e) xs) 0) own_next ∙ (let here = eq-eqb (m.dst e) (m.dst e) refl in rw here refl))

    pub stuck_alone : m.full (state m (m.dst e) (only m (m.dst e) run.log)) e ≡ true → IsStuck m (seen model stop (Some run) rounds)
    stuck_alone full =
        let suits = pending_suits m law run since n kept e (subst (λ xs. 0 < times m e xs) (sym next.1) (in_head m law e next.0)) in
        record {
          number = m.dst e;
          process = process_of m run (m.dst e);
          there = process_there run m.routers 0 (m.dst e) (law.receiver e suits) ∙ ap (λ k. Some (process_of m run k)) (omega arith);
          stuck = record {
            event = e;
            first = first_next;
            time = (let soon = next.2 in let is = ap (first_time m run.stop) next.1 in omega (arith, soon, is));
            full = full;
          };
        }

  pub stuck_rounds : (model : M) (stop : ℕ) (v : Warp M E) → IsStuck m v → IsStuck m (seen model stop None (Some v))
  stuck_rounds model stop v h = record { number = h.number; process = h.process; there = h.there; stuck = h.stuck }
