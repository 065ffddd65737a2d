-- What a call leaves at some routers is for these alone.
use Rattle.std.proofs.Common.{◌≡◌, ℕ, ◌+◌, ◌<◌, ◌==◌, Bool, not, true, false, List, [], ◌∷◌, Ok, refl, sym, subst, inl, inr, arith, nat_lt}
use Rattle.std.proofs.lemmas.Bool.{cases_Bool, cases_eq, eqb-true, ltb-false, ltb-true}
use Rattle.tw_core.proofs.Calls.{put_other, put_same}
use Rattle.tw_core.proofs.Counts.{times-from, times-held_back, times-still_held}
use Rattle.tw_core.proofs.Done.{handle_done, undo_done}
use Rattle.tw_core.specs.Good.{IsGoodPart}
use Rattle.tw_core.specs.Machine.{Core}
use Rattle.tw_core.specs.Parts.{IsOwn}
use Rattle.tw_core.specs.Steps.{after_arrival, after_handling, after_undoing, after_undoing_while, first_pending, handle, take_out, undo, with_release}
use Rattle.tw_sim.proofs.Counts.{in_filter, in_head, one_cases, times-insert, times-take_out-le}
use Rattle.tw_sim.proofs.Least.{least_is}
use Rattle.tw_sim.specs.declared.machine.Signed.{Signed}
use Rattle.tw_sim.specs.Seq.{insert}
use Rattle.tw_sim.specs.Simulation.{Simulation, IsLawful, only, times}

module _ {S E : Type 0} (m : Simulation S E) (law : IsLawful m) (owns : ℕ → Bool) where
  -- other things wait, but for the same routers
  own_waiting : (C : Core E) (pending kept : List E) → IsOwn m owns C → ((x : E) → 0 < times m x pending + times m x kept → owns (m.dst x) ≡ true)
      → IsOwn m owns (record C { pending = pending; kept = kept })
  own_waiting C pending kept own mine = record { history = own.history; waiting = mine; held = own.held }

  more_waits : (C : Core E) (e : E) → IsOwn m owns C → owns (m.dst e) ≡ true → (x : E) → 0 < times m x (insert m e C.pending) + times m x C.kept → owns (m.dst x) ≡ true
  more_waits C e own mine x h = grind (arith, one_cases, times-insert)

  less_waits : (C : Core E) (e : E) → IsOwn m owns C → (x : E) → 0 < times m x (take_out m e C.pending) + times m x C.kept → owns (m.dst x) ≡ true
  less_waits C e own x h = own.waiting x (let k = times-take_out-le m x e C.pending in omega arith)

  own_handling : (C : Core E) (e : E) → IsOwn m owns C → 0 < times m e C.pending → IsOwn m owns (after_handling m C (m.dst e) e)
  own_handling C e own there = grind (arith, cases_eq, put_other, less_waits, times-still_held)

  -- handling
  pub own_handle : (C D : Core E) (r : ℕ) → IsOwn m owns C → handle m C r (first_pending m C r) ≡ Ok D → IsOwn m owns D
  own_handle C D r own h =
      let done = handle_done m C D r (first_pending m C r) h in
      let there = in_filter m law (λ x. m.dst x == r) done.event C.pending (least_is m law done.event (only m r C.pending) done.found).there in
      let handled = own_handling C done.event own there.1 in
      subst (IsOwn m owns) done.made (subst (λ q. IsOwn m owns (after_handling m C q done.event)) (eqb-true (m.dst done.event) r there.0) handled)

  pub own_undoing : (C : Core E) (r : ℕ) (e : E) (older : List E) → m.dst e ≡ r → C.history r ≡ e ∷ older → IsOwn m owns C → IsOwn m owns (after_undoing m C r e older)
  own_undoing C r e older home newest own =
      let mine : owns r ≡ true = own.history r e (subst (λ xs. 0 < times m e xs) (sym newest) (in_head m law e older)) in
      record {
        history = λ q x h. elim (cases_eq q r) [
          | inl same ↦ subst (λ p. owns p ≡ true) (sym same) mine
          | inr other ↦ own.history q x (subst (λ xs. 0 < times m x xs) (put_other C.history r q older other) h)
        ];
        waiting = more_waits C e own (subst (λ p. owns p ≡ true) (sym home) mine);
        held = λ x h. grind (arith, times-held_back, cases_Bool, nat_lt, ltb-true, ltb-false);
      }

  own_while : (r : ℕ) (test : E → Bool) (xs : List E) (C : Core E) → C.history r ≡ xs → ((y : E) → 0 < times m y xs → m.dst y ≡ r) → IsOwn m owns C
      → IsOwn m owns (after_undoing_while m test r xs C)
  own_while r test [] C here home own = own
  own_while r test (e ∷ older) C here home own =
      elim (cases_Bool (test e)) [
        | inl b ↦ rw b (
            let undone = own_undoing C r e older (home e (in_head m law e older)) here own in
            own_while r test older (after_undoing m C r e older) (put_same C.history r older) (λ y h. home y (omega arith)) undone)
        | inr b ↦ rw b own
      ]

  -- undoing
  pub own_undo : (t : ℕ) (C D : Core E) (r : ℕ) → IsGoodPart m t C → IsOwn m owns C → undo m C r (C.history r) ≡ Ok D → IsOwn m owns D
  own_undo t C D r good own h =
      let done = undo_done m C D r (C.history r) h in
      let home = good.home r done.event (subst (λ xs. 0 < times m done.event xs) (sym done.newest) (in_head m law done.event done.older)) in
      subst (IsOwn m owns) done.made (own_undoing C r done.event done.older home done.newest own)

  -- what was held for one of them goes out
  pub own_release : (C : Core E) (r : ℕ) → IsOwn m owns C → IsOwn m owns (with_release m C r)
  own_release C r own = record { history = own.history; waiting = own.waiting; held = λ x h. own.held x (let k = times-from m x r C.held in omega arith) }

  own_back : (t : ℕ) (C : Core E) (e : E) (test : E → Bool) → IsGoodPart m t C → IsOwn m owns C → IsOwn m owns (after_undoing_while m test (m.dst e) (C.history (m.dst e)) C)
  own_back t C e test good own = own_while (m.dst e) test (C.history (m.dst e)) C refl (good.home (m.dst e)) own

  by_sign : (t : ℕ) (C : Core E) (plus : Bool) (e : E) → IsGoodPart m t C → IsOwn m owns C → owns (m.dst e) ≡ true → IsOwn m owns (after_arrival m C (record { plus = plus; event = e }))
  by_sign t C true e good own mine = grind (arith, cases_Bool, nat_lt, own_waiting, times-take_out-le, own_back, more_waits)
  by_sign t C false e good own mine = grind (arith, cases_Bool, nat_lt, own_waiting, less_waits, own_back, not, one_cases, times-insert)

  -- the arrival of a message for one of them
  pub own_arrival : (t : ℕ) (C : Core E) (x : Signed E) → IsGoodPart m t C → IsOwn m owns C → owns (m.dst x.event) ≡ true → IsOwn m owns (after_arrival m C x)
  own_arrival t C x good own mine = by_sign t C x.plus x.event good own mine
