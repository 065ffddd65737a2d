-- What the delivery of a message keeps, of either sign: a good part, and every surplus.
use Rattle.std.proofs.Common.{◌≡◌, ℕ, ◌+◌, ◌<◌, ◌≤◌, Bool, cond, not, true, false, List, ◌++◌, Some, remove, slice_get, refl, ap, sym, subst, inl, inr, arith, nat_lt}
use Rattle.std.proofs.lemmas.Bool.{cases_Bool, both_ways, false_from_ne_true, ltb-true, ltb-false}
use Rattle.tw_core.proofs.RollBack.{back_while, left_fails, taken_back, undoing_while-flight}
use Rattle.tw_core.proofs.Counts.{antimessages-append, antimessages-remove, in_flight, messages-append, messages-remove}
use Rattle.tw_core.specs.Good.{IsGoodPart}
use Rattle.tw_core.specs.Machine.{Core, antimessages, messages, times_handled, times_loose}
use Rattle.tw_core.specs.Parts.{PreservesPart}
use Rattle.tw_core.specs.Steps.{after_delivery, after_undoing_while, take_out}
use Rattle.tw_sim.proofs.Counts.{none, one_cases, times-insert, times-take_out}
use Rattle.tw_sim.specs.declared.machine.Signed.{Signed}
use Rattle.tw_sim.specs.Seq.{insert}
use Rattle.tw_sim.specs.Simulation.{Simulation, IsLawful, one, times}

module _ {S E : Type 0} (m : Simulation S E) (law : IsLawful m) where
  -- other things are loose, but nothing that was not
  pub part_loose : (t : ℕ) (C : Core E) (pending kept : List E) (flight : List (Signed E)) → IsGoodPart m t C
      → ((x : E) → 0 < times m x pending + times m x kept + (messages m x flight + antimessages m x flight) + times m x C.held → 0 < times_loose m C x)
      → ((e x : E) → 0 < times m e pending → 0 < times m x (C.history (m.dst e)) → m.before e x ≡ false)
      → ((x : E) → 0 < times m x kept → (times m x pending ≡ 0) × (times_handled m C x ≡ 0))
      → IsGoodPart m t (record C { pending = pending; kept = kept; flight = flight })
  part_loose t C pending kept flight good none_new ahead alone = grind arith

  module _ (t : ℕ) (C : Core E) (good : IsGoodPart m t C) (k : ℕ) (e : E) where
    -- a message for which an antimessage is kept
    meets_kept : slice_get C.flight k ≡ Some (record { plus = true; event = e }) → 0 < times m e C.kept
        → PreservesPart m t C (record C { kept = take_out m e C.kept; flight = remove C.flight k })
    meets_kept place there = record {
      part = part_loose t C C.pending (take_out m e C.kept) (remove C.flight k) good
          (λ x h. (
          let taken = times-take_out m law x e C.kept there in
          let plus = messages-remove m x C.flight k (record { plus = true; event = e }) place in
          let minus = antimessages-remove m x C.flight k (record { plus = true; event = e }) place in
          omega arith))
          good.ahead
          (λ x h. good.alone x (let taken = times-take_out m law x e C.kept there in omega arith));
      surplus = λ x. (
          let taken = times-take_out m law x e C.kept there in
          let plus = messages-remove m x C.flight k (record { plus = true; event = e }) place in
          let minus = antimessages-remove m x C.flight k (record { plus = true; event = e }) place in
          omega arith);
      done = refl;
      past = refl;
      bound = refl;
      stop = refl;
      cancel = refl;
    }

    -- its router undoes the events that pass the test, while the message is still in flight
    module _ (test : E → Bool) where
      abbrev back : List (Signed E)
      back = taken_back m C.cancel test (m.dst e) (C.history (m.dst e))

      abbrev B : Core E
      B = after_undoing_while m test (m.dst e) (C.history (m.dst e)) C

      flight_back : B.flight ≡ C.flight ++ back
      flight_back = ap (λ z. z.flight) (undoing_while-flight m test (m.dst e) (C.history (m.dst e)) C C.flight)

      -- with the message gone
      apart : after_undoing_while m test (m.dst e) (C.history (m.dst e)) (record C { flight = remove C.flight k }) ≡ record B { flight = remove C.flight k ++ back }
      apart = undoing_while-flight m test (m.dst e) (C.history (m.dst e)) C (remove C.flight k)

      messages_apart : (x : E) (s : Signed E) → slice_get C.flight k ≡ Some s → messages m x B.flight ≡ cond s.plus (one m x s.event) 0 + messages m x (remove C.flight k ++ back)
      messages_apart x s place = grind (arith, flight_back, messages-append, remove, messages-remove)

      antimessages_apart : (x : E) (s : Signed E) → slice_get C.flight k ≡ Some s → antimessages m x B.flight ≡ cond s.plus 0 (one m x s.event) + antimessages m x (remove C.flight k ++ back)
      antimessages_apart x s place = grind (arith, flight_back, antimessages-append, remove, antimessages-remove)

    is_later : (x : E) → m.before e x ≡ true → m.time e ≤ m.time x
    is_later x h = law.timely e x h

    is_from : (x : E) → not (m.before x e) ≡ true → m.time e ≤ m.time x
    is_from x h = grind arith

    -- a message for which none is kept becomes pending
    becomes_pending : slice_get C.flight k ≡ Some (record { plus = true; event = e }) → times m e C.kept ≡ 0
        → PreservesPart m t C (record (B (λ x. m.before e x)) { pending = insert m e (B (λ x. m.before e x)).pending; flight = remove C.flight k ++ back (λ x. m.before e x) })
    becomes_pending place none_kept =
        let test : E → Bool = λ x. m.before e x in
        let late : t ≤ m.time e = good.late e (let k = in_flight m law C.flight k (record { plus = true; event = e }) place in omega arith) in
        let undone = back_while m law t (m.dst e) test (λ x h. let k = is_later x h in omega arith) (C.history (m.dst e)) C refl good in
        let left = left_fails m law (m.dst e) test (λ x y h b. law.trans e y x b h) (C.history (m.dst e)) C refl (good.falling (m.dst e)) in
        let plus = λ (x : E). messages_apart test x (record { plus = true; event = e }) place in
        let minus = λ (x : E). antimessages_apart test x (record { plus = true; event = e }) place in
        let waits = λ (x : E). times-insert m x e (B test).pending in
        record {
          part = grind arith;
          surplus = λ x. (let a = plus x in let b = minus x in let c = waits x in let d = undone.surplus x in omega arith);
          done = undone.done;
          past = undone.past;
          bound = undone.bound;
          stop = undone.stop;
          cancel = undone.cancel;
        }

    -- an antimessage whose event is pending
    meets_pending : slice_get C.flight k ≡ Some (record { plus = false; event = e }) → 0 < times m e C.pending
        → PreservesPart m t C (record C { pending = take_out m e C.pending; flight = remove C.flight k })
    meets_pending place there = record {
      part = part_loose t C (take_out m e C.pending) C.kept (remove C.flight k) good
          (λ x h. (
          let taken = times-take_out m law x e C.pending there in
          let plus = messages-remove m x C.flight k (record { plus = false; event = e }) place in
          let minus = antimessages-remove m x C.flight k (record { plus = false; event = e }) place in
          omega arith))
          (λ x y h handled. good.ahead x y (let taken = times-take_out m law x e C.pending there in omega arith) handled)
          (λ x h. (
          let old = good.alone x h in
          let pending = old.0 in
          let taken = times-take_out m law x e C.pending there in
          (omega arith, old.1)));
      surplus = λ x. (
          let taken = times-take_out m law x e C.pending there in
          let plus = messages-remove m x C.flight k (record { plus = false; event = e }) place in
          let minus = antimessages-remove m x C.flight k (record { plus = false; event = e }) place in
          omega arith);
      done = refl;
      past = refl;
      bound = refl;
      stop = refl;
      cancel = refl;
    }

    -- an antimessage whose event is handled
    meets_handled : slice_get C.flight k ≡ Some (record { plus = false; event = e }) → 0 < times_handled m C e
        → PreservesPart m t C (record (B (λ x. not (m.before x e))) { pending = take_out m e (B (λ x. not (m.before x e))).pending; flight = remove C.flight k ++ back (λ x. not (m.before x e)) })
    meets_handled place handled =
        let test : E → Bool = λ x. not (m.before x e) in
        let late : t ≤ m.time e = good.late e (let k = in_flight m law C.flight k (record { plus = false; event = e }) place in omega arith) in
        let undone = back_while m law t (m.dst e) test (λ x h. let k = is_from x h in omega arith) (C.history (m.dst e)) C refl good in
        let left = left_fails m law (m.dst e) test
        (λ x y h b. ap not (false_from_ne_true (m.before x e) (λ k. both_ways (test y) (ap not (law.trans y x e h k)) b)))
        (C.history (m.dst e)) C refl (good.falling (m.dst e)) in
        let plus = λ (x : E). messages_apart test x (record { plus = false; event = e }) place in
        let minus = λ (x : E). antimessages_apart test x (record { plus = false; event = e }) place in
        let gone = none (times_handled m (B test) e) (λ h. both_ways (test e) (left e h) (rw (law.not_self e) refl)) in
        let waits : 0 < times m e (B test).pending = (let a = undone.moved e in omega arith) in
        record {
          part = grind (arith, part_loose, remove, times-take_out);
          surplus = λ x. (let a = plus x in let b = minus x in let c = times-take_out m law x e (B test).pending waits in let d = undone.surplus x in omega arith);
          done = undone.done;
          past = undone.past;
          bound = undone.bound;
          stop = undone.stop;
          cancel = undone.cancel;
        }

    -- an antimessage that comes before its message
    becomes_kept : slice_get C.flight k ≡ Some (record { plus = false; event = e }) → times m e C.pending ≡ 0 → times_handled m C e ≡ 0
        → PreservesPart m t C (record C { kept = insert m e C.kept; flight = remove C.flight k })
    becomes_kept place none_pending none_handled = record {
      part = part_loose t C C.pending (insert m e C.kept) (remove C.flight k) good
          (λ x h. (
          let more = times-insert m x e C.kept in
          let plus = messages-remove m x C.flight k (record { plus = false; event = e }) place in
          let minus = antimessages-remove m x C.flight k (record { plus = false; event = e }) place in
          omega arith))
          good.ahead
          (λ x h. elim (one_cases m law x e) [
            | inr is ↦ (subst (λ z. times m z C.pending ≡ 0) (sym is) none_pending, subst (λ z. times_handled m C z ≡ 0) (sym is) none_handled)
            | inl z ↦ good.alone x (let more = times-insert m x e C.kept in omega arith)
          ]);
      surplus = λ x. (
          let more = times-insert m x e C.kept in
          let plus = messages-remove m x C.flight k (record { plus = false; event = e }) place in
          let minus = antimessages-remove m x C.flight k (record { plus = false; event = e }) place in
          omega arith);
      done = refl;
      past = refl;
      bound = refl;
      stop = refl;
      cancel = refl;
    }

    delivered_message : slice_get C.flight k ≡ Some (record { plus = true; event = e }) → PreservesPart m t C (after_delivery m C k (record { plus = true; event = e }))
    delivered_message place =
        elim (cases_Bool (nat_lt 0 (times m e C.kept))) [
          | inl b ↦ rw b (meets_kept place (ltb-true 0 (times m e C.kept) b))
          | inr b ↦ grind (arith, apart, becomes_pending, none, ltb-false)
        ]

    delivered_antimessage : slice_get C.flight k ≡ Some (record { plus = false; event = e }) → PreservesPart m t C (after_delivery m C k (record { plus = false; event = e }))
    delivered_antimessage place =
        elim (cases_Bool (nat_lt 0 (times m e C.pending))) [
          | inl b ↦ rw b (meets_pending place (ltb-true 0 (times m e C.pending) b))
          | inr b ↦ grind (arith, cases_Bool, nat_lt, apart, not, meets_handled, ltb-true, becomes_kept, none, ltb-false)
        ]

  by_sign : (t : ℕ) (C : Core E) (k : ℕ) (plus : Bool) (e : E) → IsGoodPart m t C → slice_get C.flight k ≡ Some (record { plus = plus; event = e })
      → PreservesPart m t C (after_delivery m C k (record { plus = plus; event = e }))
  by_sign t C k true e good place = delivered_message t C good k e place
  by_sign t C k false e good place = delivered_antimessage t C good k e place

  -- whichever message arrives
  pub delivered : (t : ℕ) (C : Core E) (k : ℕ) (x : Signed E) → IsGoodPart m t C → slice_get C.flight k ≡ Some x → PreservesPart m t C (after_delivery m C k x)
  delivered t C k x good place = by_sign t C k x.plus x.event good place
