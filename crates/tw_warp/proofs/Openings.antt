-- A machine whose shards begin is one that begins.
use Rattle.std.proofs.Common.{◌≡◌, ℕ, suc, ◌+◌, ◌<◌, ◌≤◌, ◌==◌, Bool, true, cond, List, [], ◌∷◌, ◌++◌, filter, flat_map, get_or, length, refl, ap, sym, ◌∙◌, subst, inl, inr, arith}
use Rattle.std.proofs.lemmas.Bool.{cases_Bool, cases_eq, eq-eqb, ne_eqb}
use Rattle.tw_core.specs.Machine.{Core, IsOpening}
use Rattle.tw_core.specs.Parts.{IsOwn}
use Rattle.tw_core.proofs.Counted.{opening_counted}
use Rattle.tw_core.proofs.Steps.{good_opening}
use Rattle.tw_event.specs.declared.event.Event.{Event}
use Rattle.tw_event.specs.Order.{event_before, event_same}
use Rattle.tw_model.specs.Case.{Case, IsCase, opening_events, simulation}
use Rattle.tw_model.specs.declared.limits.TheConstants.{LATEST}
use Rattle.tw_model.proofs.Lawful.{lawful}
use Rattle.tw_shard.specs.Shard.{IsOpeningShard, Shard}
use Rattle.tw_sim.specs.declared.machine.Cancel.{Cancel}
use Rattle.tw_sim.specs.Owners.{owner}
use Rattle.tw_sim.specs.Ordered.{insert_all}
use Rattle.tw_sim.specs.Rising.{IsRising}
use Rattle.tw_sim.specs.Simulation.{times}
use Rattle.tw_sim.proofs.Counts.{in_filter, times-append, times-filter-no, times-filter-yes, times-insert_all}
use Rattle.std.proofs.Math.Path.{fun_ext}
use Rattle.tw_warp.specs.Openings.{opening_machine}
use Rattle.tw_warp.proofs.InOrder.{same_order}
use Rattle.tw_warp.specs.Warp.{IsWarp, Warp, no_shard, shard_at, warp_core, worker_with}

module _ (case : Case) (is : IsCase case) (n : ℕ) (retains : Bool) (cancel : Cancel) where
  -- how often an event waits at a shard that begins
  pub waits : (k : ℕ) (s : Shard) (e : Event) → IsOpeningShard case k n retains cancel s
      → times (simulation case) e s.pending ≡ cond (owner n e.dst == k) (times (simulation case) e (opening_events case.scenes)) 0
  waits k s e at =
      let m = simulation case in
      let law = lawful case is in
      let all = opening_events case.scenes in
      let mine = filter (λ x. owner n x.dst == k) all in
      let pending : times m e s.pending ≡ times m e (insert_all event_before mine []) = ap (λ (C : Core Event). times m e C.pending) (at.core_is 0) in
      let count = times-insert_all m e mine [] in
      elim (cases_Bool (owner n e.dst == k)) [
        | inl here ↦ (let own = times-filter-yes m law (λ x. owner n x.dst == k) e all here in rw here (omega arith))
        | inr other ↦ (let none = times-filter-no m law (λ x. owner n x.dst == k) e all other in rw other (omega arith))
      ]

  -- over shards from number a on, it waits once for its receiver's worker
  pub all_wait : (e : Event) (ss : List Shard) (a : ℕ) → ((j : ℕ) → j < length ss → IsOpeningShard case (a + j) n retains cancel (get_or ss j no_shard))
      → (a ≤ owner n e.dst → owner n e.dst < a + length ss → times (simulation case) e (flat_map (λ s. s.pending) ss) ≡ times (simulation case) e (opening_events case.scenes))
      × (owner n e.dst < a → times (simulation case) e (flat_map (λ s. s.pending) ss) ≡ 0)
  all_wait e [] a each = ((λ from to. absurd (omega arith)), (λ before. refl))
  all_wait e (s ∷ ss) a each =
      let m = simulation case in
      let first = waits a s e (subst (λ k. IsOpeningShard case k n retains cancel s) (omega arith) (each 0 (omega arith))) in
      let rest = all_wait e ss (a + 1) (λ j h. subst (λ k. IsOpeningShard case k n retains cancel (get_or ss j no_shard)) (omega arith) (each (suc j) (omega arith))) in
      let both : times m e (flat_map (λ s. s.pending) (s ∷ ss)) ≡ times m e s.pending + times m e (flat_map (λ s. s.pending) ss) = times-append m e s.pending (flat_map (λ s. s.pending) ss) in (
        (λ from to. elim (cases_eq (owner n e.dst) a) [
          | inl here ↦ (
              let own : times m e s.pending ≡ times m e (opening_events case.scenes) = first ∙ ap (λ b. cond b (times m e (opening_events case.scenes)) 0) (eq-eqb (owner n e.dst) a here) in
              let none = rest.1 (omega arith) in omega arith)
          | inr other ↦ (
              let none : times m e s.pending ≡ 0 = first ∙ ap (λ b. cond b (times m e (opening_events case.scenes)) 0) (ne_eqb (owner n e.dst) a other) in
              let own = rest.0 (grind arith) (omega arith) in omega arith)
        ]),
        (λ before.
            let none : times m e s.pending ≡ 0 = first ∙ ap (λ b. cond b (times m e (opening_events case.scenes)) 0) (ne_eqb (owner n e.dst) a (λ same. omega arith)) in
            let more = rest.1 (omega arith) in omega arith),
      )

  none_kept : (ss : List Shard) (a : ℕ) → ((j : ℕ) → j < length ss → IsOpeningShard case (a + j) n retains cancel (get_or ss j no_shard)) → flat_map (λ s. s.kept) ss ≡ []
  none_kept [] a each = refl
  none_kept (s ∷ ss) a each =
      let first : s.kept ≡ [] = ap (λ (C : Core Event). C.kept) ((each 0 (omega arith)).core_is 0) in
      let rest = none_kept ss (a + 1) (λ j h. subst (λ k. IsOpeningShard case k n retains cancel (get_or ss j no_shard)) (omega arith) (each (suc j) (omega arith))) in
      λ i. first i ++ rest i

  none_held : (ss : List Shard) (a : ℕ) → ((j : ℕ) → j < length ss → IsOpeningShard case (a + j) n retains cancel (get_or ss j no_shard)) → flat_map (λ s. s.held) ss ≡ []
  none_held [] a each = refl
  none_held (s ∷ ss) a each =
      let first : s.held ≡ [] = ap (λ (C : Core Event). C.held) ((each 0 (omega arith)).core_is 0) in
      let rest = none_held ss (a + 1) (λ j h. subst (λ k. IsOpeningShard case k n retains cancel (get_or ss j no_shard)) (omega arith) (each (suc j) (omega arith))) in
      λ i. first i ++ rest i

-- shards that begin, one for each worker
module _ (w : Warp) (is : IsCase w.case) (some : 0 < length w.shards) (each : (k : ℕ) → k < length w.shards → IsOpeningShard w.case k (length w.shards) true w.cancel (shard_at w k))
    (flight : w.flight ≡ []) (bound : w.bound ≡ 0) where
  from_zero : (j : ℕ) → j < length w.shards → IsOpeningShard w.case (0 + j) (length w.shards) true w.cancel (get_or w.shards j no_shard)
  from_zero j h = subst (λ k. IsOpeningShard w.case k (length w.shards) true w.cancel (shard_at w j)) (omega arith) (each j h)

  own_worker : (r : ℕ) → worker_with w r < length w.shards
  own_worker r = omega arith

  pub opens : IsOpening (simulation w.case) (warp_core w)
  opens =
      let m = simulation w.case in
      record {
        history = λ r. ap (λ (C : Core Event). C.history r) ((each (worker_with w r) (own_worker r)).core_is w.stop);
        pending = λ e.
            let all = flat_map (λ s. s.pending) w.shards in
            let count = times-insert_all m e all [] in
            let once = (all_wait w.case is (length w.shards) true w.cancel e w.shards 0 from_zero).0 (omega arith) (let h = own_worker e.dst in omega arith) in
            omega arith;
        kept = ap (λ xs. insert_all event_before xs []) (none_kept w.case is (length w.shards) true w.cancel w.shards 0 from_zero);
        flight = flight;
        held = ap (λ xs. insert_all event_before xs []) (none_held w.case is (length w.shards) true w.cancel w.shards 0 from_zero);
        done = λ r. ap (λ (C : Core Event). C.done r) ((each (worker_with w r) (own_worker r)).core_is w.stop);
        past = λ r. ap (λ (C : Core Event). C.past r) ((each (worker_with w r) (own_worker r)).core_is w.stop);
        bound = bound;
        room = λ r. ap (λ (C : Core Event). C.room r) ((each (worker_with w r) (own_worker r)).core_is w.stop);
      }

  pub opens_exactly : warp_core w ≡ opening_machine w.case w.cancel w.stop
  opens_exactly =
      let m = simulation w.case in
      let all = flat_map (λ s. s.pending) w.shards in
      let o = opens in
      let same = same_order m (lawful w.case is) all (opening_events w.case.scenes)
      (λ e. (all_wait w.case is (length w.shards) true w.cancel e w.shards 0 from_zero).0 (omega arith) (let h = own_worker e.dst in omega arith)) in
      λ i. record {
        history = fun_ext o.history i;
        pending = same i;
        kept = o.kept i;
        flight = o.flight i;
        held = o.held i;
        done = fun_ext o.done i;
        past = fun_ext o.past i;
        room = fun_ext o.room i;
        bound = o.bound i;
        stop = w.stop;
        cancel = w.cancel;
      }

  pub opened_is : w.stop ≤ LATEST → IsWarp w
  opened_is most =
      let m = simulation w.case in
      record {
        case = is;
        workers = some;
        shares = λ k within.
            let at = each k within in
            record {
              case = ap (λ x. x.case) at.terms;
              worker = ap (λ x. x.worker) at.terms;
              routers = at.owns_are;
              bound = ap (λ (C : Core Event). C.bound) (at.core_is 0) ∙ sym bound;
              retains = ap (λ x. x.retains) at.terms;
              cancel = ap (λ x. x.cancel) at.terms;
              outgoing = ap (λ (C : Core Event). C.flight) (at.core_is 0);
              held = subst (λ (C : Core Event). IsRising event_before event_same C.held) (sym (at.core_is 0)) tt;
              own = subst (IsOwn m (λ r. worker_with w r == k)) (sym (at.core_is w.stop)) (record {
                history = λ r e none. absurd (omega arith);
                held = λ e none. absurd (omega arith);
                waiting = λ e there.
                    let all = filter (λ x. owner (length w.shards) x.dst == k) (opening_events w.case.scenes) in
                    let count = times-insert_all m e all [] in
                    (in_filter m (lawful w.case is) (λ x. owner (length w.shards) x.dst == k) e (opening_events w.case.scenes) (omega arith)).0;
              });
            };
        good = good_opening m (lawful w.case is) (warp_core w) opens;
        counted = opening_counted m (warp_core w) opens;
        stop = most;
      }

-- the machine of a case that has handled nothing begins
pub machine_opens : (case : Case) (cancel : Cancel) (stop : ℕ) → IsOpening (simulation case) (opening_machine case cancel stop)
machine_opens case cancel stop = record {
  history = λ r. refl;
  pending = λ e. let count = times-insert_all (simulation case) e (opening_events case.scenes) [] in omega arith;
  kept = refl;
  flight = refl;
  held = refl;
  done = λ r. refl;
  past = λ r. refl;
  bound = refl;
  room = λ r. refl;
}
