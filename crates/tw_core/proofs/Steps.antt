-- Each step keeps good, and never lowers the bound.
use Rattle.std.proofs.Common.{◌≡◌, ◌+◌, ◌<◌, ◌≤◌, ◌==◌, ◌∷◌, ◌∙◌}
use Rattle.std.proofs.Common.{ℕ, zero, suc, true, false, List, [], map, Option, Some, None, Result, Ok, Err, slice_get, refl, ap, sym, subst, inl, inr, arith, nat_lt}
use Rattle.std.proofs.lemmas.Bool.{cases_Bool, eqb-true, eq-eqb, ltb-true, ltb-false}
use Rattle.std.specs.Result.{result_unwrap_or}
use Rattle.tw_core.proofs.Done.{at_router_done, handle_done, undo_done}
use Rattle.tw_core.proofs.RollBack.{back_one}
use Rattle.tw_core.proofs.Calls.{MayHandle, part_handling, surplus_handling}
use Rattle.tw_core.proofs.Counts.{antimessages-antimessage, antimessages-append, in_flight, messages-antimessage, messages-append, times-from}
use Rattle.tw_core.proofs.Delivery.{delivered}
use Rattle.tw_core.specs.declared.refusal.Refusal.{Refusal}
use Rattle.tw_core.specs.Good.{IsGood, IsGoodPart}
use Rattle.tw_core.specs.Machine.{Core, IsOpening, antimessages, messages, times_loose}
use Rattle.tw_core.specs.Parts.{PreservesPart}
use Rattle.tw_core.specs.Steps.{after_delivery, after_handling, after_undoing, deliver, first_pending, handle, is_newest, least_loose, least_time, next, run, step, undo, with_bound, with_release, with_room}
use Rattle.tw_sim.proofs.Counts.{in_cons, in_filter, one_self, times-filter-yes}
use Rattle.tw_sim.proofs.Least.{least_is}
use Rattle.tw_sim.specs.declared.machine.Signed.{Signed}
use Rattle.tw_sim.specs.declared.machine.Step.{Step}
use Rattle.tw_sim.specs.declared.machine.Step.TheVariants.{Handle, Undo, Deliver, Bound, Commit, Release}
use Rattle.tw_sim.specs.Simulation.{Simulation, IsLawful, only, times}

module _ {S E : Type 0} (m : Simulation S E) (law : IsLawful m) where
  -- ---- handle

  pub may_handle : (t : ℕ) (C : Core E) (r : ℕ) (e : E) → IsGoodPart m t C → first_pending m C r ≡ Some e → m.time e < C.stop → is_newest m e (C.history r) ≡ false
      → (m.dst e ≡ r) × MayHandle m C e
  may_handle t C r e good first soon other =
      let least = least_is m law e (only m r C.pending) first in
      let there = in_filter m law (λ x. m.dst x == r) e C.pending least.there in
      let home : m.dst e ≡ r = eqb-true (m.dst e) r there.0 in
      let other_home : is_newest m e (C.history (m.dst e)) ≡ false = subst (λ q. is_newest m e (C.history q) ≡ false) (sym home) other in (
        home,
        record {
          there = there.1;
          soon = soon;
          first = λ x waits same.
              let for_r : 0 < times m x (only m r C.pending) = (let k = times-filter-yes m law (λ y. m.dst y == r) x C.pending (eq-eqb (m.dst x) r (same ∙ home)) in omega arith) in
              least.first x for_r;
          fresh = λ x handled. grind arith;
        },
      )

  pub keeps_handling : (t : ℕ) (C : Core E) (r : ℕ) (e : E) → IsGoodPart m t C → (m.dst e ≡ r) × MayHandle m C e → PreservesPart m t C (after_handling m C r e)
  keeps_handling t C r e good may = grind (arith, part_handling, surplus_handling)

  -- handling, where it is not refused
  pub handle_keeps : (t : ℕ) (C D : Core E) (r : ℕ) → IsGoodPart m t C → handle m C r (first_pending m C r) ≡ Ok D → PreservesPart m t C D
  handle_keeps t C D r good h =
      let done = handle_done m C D r (first_pending m C r) h in
      subst (PreservesPart m t C) done.made (keeps_handling t C r done.event good (may_handle t C r done.event good done.found done.soon done.new))

  -- ---- undo and deliver

  -- undoing an event that is not before t
  pub undoing_keeps : (t : ℕ) (C : Core E) (r : ℕ) (e : E) (older : List E) → t ≤ m.time e → IsGoodPart m t C → C.history r ≡ e ∷ older → PreservesPart m t C (after_undoing m C r e older)
  undoing_keeps t C r e older late good newest = (back_one m law t r C e older newest late good).keeps

  -- undoing, where it is not refused
  pub undo_keeps : (t : ℕ) (C D : Core E) (r : ℕ) → t ≤ C.bound → IsGoodPart m t C → undo m C r (C.history r) ≡ Ok D → PreservesPart m t C D
  undo_keeps t C D r le good h =
      let done = undo_done m C D r (C.history r) h in
      let late = done.late in
      subst (PreservesPart m t C) done.made (undoing_keeps t C r done.event done.older (omega arith) good done.newest)

  deliver_at : (t : ℕ) (C D : Core E) (k : ℕ) (o : Option (Signed E)) → IsGoodPart m t C → slice_get C.flight k ≡ o → deliver m C k o ≡ Ok D → PreservesPart m t C D
  deliver_at t C D k None good place h = cc
  deliver_at t C D k (Some x) good place h =
      let made : after_delivery m C k x ≡ D = cc in
      subst (PreservesPart m t C) made (delivered m law t C k x good place)

  -- delivering, where there is such a message
  pub deliver_keeps : (t : ℕ) (C D : Core E) (k : ℕ) → IsGoodPart m t C → deliver m C k (slice_get C.flight k) ≡ Ok D → PreservesPart m t C D
  deliver_keeps t C D k good h = deliver_at t C D k (slice_get C.flight k) good refl h

  -- ---- release and widen

  -- what is taken back for a router was held
  pub release_keeps : (t : ℕ) (C : Core E) (r : ℕ) → IsGoodPart m t C → PreservesPart m t C (with_release m C r)
  release_keeps t C r good = grind (arith, messages-append, messages-antimessage, antimessages-append, antimessages-antimessage, times-from)

  -- more room changes nothing else
  pub widen_keeps : (t : ℕ) (C : Core E) (r : ℕ) → IsGoodPart m t C → PreservesPart m t C (with_room m C r)
  widen_keeps t C r good = grind arith

  -- ---- good

  -- good is the part at the bound and the balance, which a surplus that stays keeps
  good_after : (C D : Core E) → IsGood m C → PreservesPart m C.bound C D → IsGood m D
  good_after C D good keeps = grind arith

  least_time-there : (xs : List E) (t : ℕ) (e : E) → 0 < times m e xs → least_time m xs t ≤ m.time e
  least_time-there [] t e h = absurd (omega arith)
  least_time-there (x ∷ xs) t e h =
      elim (in_cons m law e x xs h) [
        | inl is ↦ (let same : m.time e ≡ m.time x = ap m.time is in omega arith)
        | inr k ↦ (let more = least_time-there xs t e k in omega arith)
      ]

  least_time-le : (xs : List E) (t : ℕ) → least_time m xs t ≤ t
  least_time-le [] t = omega arith
  least_time-le (x ∷ xs) t = let more = least_time-le xs t in omega arith

  least_time-from : (b : ℕ) (xs : List E) (t : ℕ) → ((e : E) → 0 < times m e xs → b ≤ m.time e) → b ≤ t → b ≤ least_time m xs t
  least_time-from b [] t h le = le
  least_time-from b (x ∷ xs) t h le =
      let self = one_self m law x in
      let first = h x (omega arith) in
      let more = least_time-from b xs t (λ e k. h e (omega arith)) le in
      omega arith

  times_events : (e : E) (xs : List (Signed E)) → times m e (map (λ x. x.event) xs) ≡ messages m e xs + antimessages m e xs
  times_events e [] = refl
  times_events e (x ∷ xs) = grind (arith, cases_Bool, times_events e xs)

  -- the least time of what is pending, kept or in flight, and of another time
  abbrev least_moving : Core E → ℕ → ℕ
  least_moving C last = least_time m C.pending (least_time m C.kept (least_time m (map (λ x. x.event) C.flight) last))

  least_moving-there : (C : Core E) (last : ℕ) (e : E) → 0 < times m e C.pending + times m e C.kept + (messages m e C.flight + antimessages m e C.flight)
      → least_moving C last ≤ m.time e
  least_moving-there C last e h = grind (arith, times_events, least_time-le, cases_Bool, nat_lt, least_time-there, ltb-true, ltb-false)

  least_moving-le : (C : Core E) (last : ℕ) → least_moving C last ≤ last
  least_moving-le C last = grind (arith, least_time-le)

  -- nothing loose is before the least time of all that is
  least_loose-there : (C : Core E) (e : E) → 0 < times_loose m C e → least_loose m C ≤ m.time e
  least_loose-there C e h = grind (arith, cases_Bool, nat_lt, least_time-there, ltb-true, least_moving-le, least_moving-there, ltb-false)

  least_loose-le : (C : Core E) → least_loose m C ≤ C.stop
  least_loose-le C = grind (arith, least_moving-le, least_time-le)

  -- where the bound is not beyond the stop and nothing loose is before it, it does not fall
  least_loose-from : (C : Core E) (b : ℕ) → ((e : E) → 0 < times_loose m C e → b ≤ m.time e) → b ≤ C.stop → b ≤ least_loose m C
  least_loose-from C b late le =
      let events = map (λ (x : Signed E). x.event) C.flight in
      let holding = least_time m C.held C.stop in
      let flying = least_time m events holding in
      least_time-from b C.pending (least_time m C.kept flying) (λ e h. late e (omega arith))
      (least_time-from b C.kept flying (λ e h. late e (omega arith))
      (least_time-from b events holding (λ e h. late e (let k = times_events e C.flight in omega arith))
      (least_time-from b C.held C.stop (λ e h. late e (omega arith)) le)))

  good_bound : (C : Core E) → IsGood m C → IsGood m (with_bound m C)
  good_bound C good = grind (arith, least_loose-from, least_loose-there, least_loose-le)

  -- ---- steps

  -- a step that is done keeps good and does not lower the bound
  pub record StepKeeps (C D : Core E) : Type 0 where
    pub good : IsGood m D
    pub bound : C.bound ≤ D.bound

  called : (C D : Core E) → IsGood m C → PreservesPart m C.bound C D → StepKeeps C D
  called C D good keeps = record { good = good_after C D good keeps; bound = (let same = keeps.bound in omega arith) }

  -- whichever step
  pub step_keeps : (C D : Core E) (x : Step) → IsGood m C → step m C x ≡ Ok D → StepKeeps C D
  step_keeps C D (Handle r) good h = called C D good (handle_keeps C.bound C D r good.part (at_router_done m r (handle m C r (first_pending m C r)) D h))
  step_keeps C D (Undo r) good h = called C D good (undo_keeps C.bound C D r (omega arith) good.part (at_router_done m r (undo m C r (C.history r)) D h))
  step_keeps C D (Deliver zero) good h = cc
  step_keeps C D (Deliver (suc k)) good h = called C D good (deliver_keeps C.bound C D k good.part h)
  step_keeps C D Bound good h =
      let made : with_bound m C ≡ D = cc in
      subst (StepKeeps C) made (record { good = good_bound C good; bound = least_loose-from C C.bound good.part.late good.bound })
  step_keeps C D (Commit r) good h = grind arith
  step_keeps C D (Release r) good h =
      let ok = at_router_done m r (Ok (with_release m C r)) D h in
      let made : with_release m C r ≡ D = cc in
      subst (StepKeeps C) made (called C (with_release m C r) good (release_keeps C.bound C r good.part))

  next_at : (C : Core E) (o : Result (Core E) Refusal) → IsGood m C → ((D : Core E) → o ≡ Ok D → StepKeeps C D) → StepKeeps C (result_unwrap_or o C)
  next_at C (Ok D) good keeps = keeps D refl
  next_at C (Err refusal) good keeps = record { good = good; bound = omega arith }

  -- a step, refused or not
  pub next_keeps : (C : Core E) (x : Step) → IsGood m C → StepKeeps C (next m C x)
  next_keeps C x good = next_at C (step m C x) good (λ D h. step_keeps C D x good h)

  -- and so does every list of steps
  pub run_keeps : (C : Core E) (xs : List Step) → IsGood m C → StepKeeps C (run m C xs)
  run_keeps C [] good = record { good = good; bound = omega arith }
  run_keeps C (x ∷ xs) good =
      let first = next_keeps C x good in
      let others = run_keeps (next m C x) xs first.good in
      record { good = others.good; bound = (let a = first.bound in let b = others.bound in omega arith) }

  -- ---- the beginning

  -- the opening state is good
  pub good_opening : (C : Core E) → IsOpening m C → IsGood m C
  good_opening C opens = grind arith

  -- the stop may rise
  pub good_further : (C : Core E) (stop : ℕ) → C.stop ≤ stop → IsGood m C → IsGood m (record C { stop = stop })
  good_further C stop le good = grind arith

  -- a message in flight is never before the bound, and suits its receiver, a router that is there
  pub welcome : (C : Core E) (k : ℕ) (x : Signed E) → IsGood m C → slice_get C.flight k ≡ Some x → (C.bound ≤ m.time x.event) × (m.dst x.event < m.routers) × (m.suits x.event ≡ true)
  welcome C k x good place = grind (arith, in_flight)
