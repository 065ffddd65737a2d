-- The same definitions in other words.
use Rattle.std.proofs.Common.{◌≡◌, ◌+◌, ◌*◌, ◌<◌, ◌≤◌, ◌==◌, ◌∷◌, ◌++◌, ◌∙◌, ◌⊎◌, ◌↔◌}
use Rattle.std.proofs.Common.{ℕ, Bool, cond, not, true, false, List, [], Option, Some, None, append_assoc, Err, refl, ap, sym, inl, inr, arith, nat_lt}
use Rattle.std.proofs.lemmas.Bool.{cases_Bool, eq-eqb, eqb-true, le-ltb, ltb-true, ltb-false}
use Rattle.std.specs.List.{AllByRecursion}
use Rattle.tw_core.proofs.RollBack.{taken_back, undoing_while-flight}
use Rattle.tw_core.proofs.Headline.{good_log}
use Rattle.tw_core.proofs.Steps.{run_keeps}
use Rattle.tw_core.specs.declared.refusal.Refusal.TheVariants.{Nothing}
use Rattle.tw_core.specs.Good.{IsGood, IsGoodPart, due}
use Rattle.tw_core.specs.Machine.{Core, committed}
use Rattle.tw_core.specs.Parts.{total}
use Rattle.tw_core.specs.Steps.{after_arrival, after_undoing, after_undoing_while, first_pending, handle, run}
use Rattle.tw_sim.proofs.Counts.{in_filter, in_head, times-append, times-filter-yes}
use Rattle.tw_sim.proofs.Least.{least_is}
use Rattle.tw_sim.specs.Ordered.{least}
use Rattle.tw_sim.specs.declared.machine.Signed.{Signed}
use Rattle.tw_sim.specs.declared.machine.Step.{Step}
use Rattle.tw_sim.specs.Simulation.{Simulation, IsLawful, IsNumbered, below, only, sent, state, times}

module _ {S E : Type 0} (m : Simulation S E) where
  -- undoing the newest events of a history down to and including e
  abbrev pub after_undoing_down_to : E → ℕ → List E → Core E → Core E
  after_undoing_down_to e r [] C = C
  after_undoing_down_to e r (x ∷ older) C = cond (m.same e x) (after_undoing m C r x older) (after_undoing_down_to e r older (after_undoing m C r x older))

  -- what is in flight before an arrival stays in front, and does not count in it
  while-front : (test : E → Bool) (r : ℕ) (xs : List E) (C : Core E) (front : List (Signed E))
      → after_undoing_while m test r xs (record C { flight = front ++ C.flight }) ≡ record (after_undoing_while m test r xs C) { flight = front ++ (after_undoing_while m test r xs C).flight }
  while-front test r xs C front = grind (arith, taken_back, undoing_while-flight, append_assoc)

  arrival-front_by_sign : (C : Core E) (plus : Bool) (e : E) (front : List (Signed E))
      → after_arrival m (record C { flight = front ++ C.flight }) (record { plus = plus; event = e })
      ≡ record (after_arrival m C (record { plus = plus; event = e })) { flight = front ++ (after_arrival m C (record { plus = plus; event = e })).flight }
  arrival-front_by_sign C true e front = grind (arith, cases_Bool, nat_lt, while-front)
  arrival-front_by_sign C false e front = grind (arith, cases_Bool, nat_lt, while-front, not)

  -- and the same of either sign
  pub arrival-front : (C : Core E) (x : Signed E) (front : List (Signed E))
      → after_arrival m (record C { flight = front ++ C.flight }) x ≡ record (after_arrival m C x) { flight = front ++ (after_arrival m C x).flight }
  arrival-front C x front = arrival-front_by_sign C x.plus x.event front

  module _ (law : IsLawful m) where
    none_is_empty : (xs : List E) → least m.before xs ≡ None → xs ≡ []
    none_is_empty [] h = refl
    none_is_empty (x ∷ xs) h = cc

    in_own : (C : Core E) (r : ℕ) (x : E) → 0 < times m x C.pending → m.dst x ≡ r → 0 < times m x (only m r C.pending)
    in_own C r x h same = (let k = times-filter-yes m law (λ y. m.dst y == r) x C.pending (eq-eqb (m.dst x) r same) in omega arith)

    nothing_at : (C : Core E) (r : ℕ) (first : Option E) → first_pending m C r ≡ first
        → (handle m C r first ≡ Err Nothing) ↔ ((x : E) → 0 < times m x C.pending → m.dst x ≡ r → C.stop ≤ m.time x)
    nothing_at C r None first = (
      (λ h x waits same. absurd (let there = in_own C r x waits same in let empty = ap (times m x) (none_is_empty (only m r C.pending) first) in omega arith)),
      (λ h. refl),
    )
    nothing_at C r (Some e) first = (
      (λ h x waits same. elim (cases_Bool (nat_lt (m.time e) C.stop)) [
        | inl b ↦ grind arith
        | inr b ↦ (
            let late = ltb-false (m.time e) C.stop b in
            let behind = (least_is m law e (only m r C.pending) first).first x (in_own C r x waits same) in
            elim (cases_Bool (m.before e x)) [
              | inl c ↦ (let order = law.timely e x c in omega arith)
              | inr c ↦ (let order : m.time e ≡ m.time x = ap m.time (law.total e x c behind) in omega arith)
            ])
      ]),
      (λ h.
          let there = in_filter m law (λ y. m.dst y == r) e C.pending (least_is m law e (only m r C.pending) first).there in
          let late = h e there.1 (eqb-true (m.dst e) r there.0) in
          rw (le-ltb (m.time e) C.stop late) refl),
    )

    -- a router has nothing to handle exactly where none of its pending events is before the stop
    pub nothing_to_handle : (C : Core E) (r : ℕ) → (handle m C r (first_pending m C r) ≡ Err Nothing) ↔ ((x : E) → 0 < times m x C.pending → m.dst x ≡ r → C.stop ≤ m.time x)
    nothing_to_handle C r = nothing_at C r (first_pending m C r) refl

    -- only an event's source can have sent it
    sent_src : (r : ℕ) (xs : List E) (e : E) → ((y : E) → 0 < times m y xs → m.dst y ≡ r) → 0 < times m e (sent m r xs) → m.src e ≡ r
    sent_src r [] e home h = absurd (omega arith)
    sent_src r (x ∷ older) e home h =
        let sends = m.sends (state m r older) x in
        let all = times-append m e sends (sent m r older) in
        elim (cases_Bool (nat_lt 0 (times m e sends))) [
          | inl b ↦ law.sender (state m r older) x e (ltb-true 0 (times m e sends) b) ∙ home x (in_head m law x older)
          | inr b ↦ (let no = ltb-false 0 (times m e sends) b in sent_src r older e (λ y k. home y (omega arith)) (omega arith))
        ]

    -- an event is due exactly where it is an opening event or was sent by something in a history
    pub due_asked : (t : ℕ) (C : Core E) (e : E) → IsGoodPart m t C → (0 < due m C e) ↔ ((0 < times m e m.opening) ⊎ ((r : ℕ) × (0 < times m e (sent m r (C.history r)))))
    due_asked t C e good = grind (arith, cases_Bool, nat_lt, ltb-true, ltb-false, sent_src)

    pub total_scale : {X : Type 0} (n : ℕ) (test : X → Bool) (xs : List X) → total (λ x. cond (test x) n 0) xs ≡ n * total (λ x. cond (test x) 1 0) xs
    total_scale n test [] = omega arith
    total_scale n test (x ∷ xs) = grind (arith, cases_Bool, total_scale n test xs)

    pub total_same : {X : Type 0} (f g : X → ℕ) (xs : List X) → AllByRecursion (λ x. f x ≡ g x) xs → total f xs ≡ total g xs
    total_same f g [] h = refl
    total_same f g (x ∷ xs) h = (let first = h.0 in let more = total_same f g xs h.1 in omega arith)

    -- what is committed is never undone, and nothing is added below it
    pub committed_stays : IsNumbered m → (C : Core E) (xs : List Step) (r : ℕ) → IsGood m C → below m (C.done r) ((run m C xs).history r) ≡ committed m C r
    committed_stays numbered C xs r good =
        let later = run_keeps m law C xs good in
        let bound = later.bound in
        let done = good.done r in
        good_log m law numbered (run m C xs) later.good (C.done r) (omega arith) r ∙ sym (good_log m law numbered C good (C.done r) (omega arith) r)
