-- What is held stays in order.
use Rattle.std.proofs.Common.{◌≡◌, ℕ, ◌==◌, cond, not, nat_lt, Bool, true, false, List, [], ◌∷◌, Ok, subst, inl, inr}
use Rattle.std.proofs.lemmas.Bool.{cases_Bool}
use Rattle.tw_core.proofs.Done.{handle_done, undo_done}
use Rattle.tw_core.specs.Machine.{Core}
use Rattle.tw_core.specs.Steps.{after_antimessage, after_arrival, after_message, after_undoing, after_undoing_while, first_pending, handle, held_back, still_held, take_out, undo, with_release}
use Rattle.tw_sim.proofs.Rising.{IsRising, rising-filter, rising-insert_all}
use Rattle.tw_sim.specs.declared.machine.Cancel.{Cancel}
use Rattle.tw_sim.specs.declared.machine.Cancel.TheVariants.{Aggressive, Lazy}
use Rattle.tw_sim.specs.declared.machine.Signed.{Signed}
use Rattle.tw_sim.specs.Simulation.{Simulation, IsLawful, state, times}
use Rattle.tw_warp.proofs.InOrder.{rising-take_out}

module _ {S E : Type 0} (m : Simulation S E) (law : IsLawful m) where
  rising_still : (xs held : List E) → IsRising m held → IsRising m (still_held m xs held)
  rising_still xs [] r = tt
  rising_still [] (h ∷ held) r = r
  rising_still (x ∷ xs) (h ∷ held) r = rising_still xs (take_out m x (h ∷ held)) (rising-take_out m law x (h ∷ held) r)

  rising_back : (cancel : Cancel) (xs held : List E) → IsRising m held → IsRising m (held_back m cancel xs held)
  rising_back Aggressive xs held r = r
  rising_back Lazy xs held r = rising-insert_all m law xs held r

  -- after handling
  pub rising_handle : (C D : Core E) (r : ℕ) → IsRising m C.held → handle m C r (first_pending m C r) ≡ Ok D → IsRising m D.held
  rising_handle C D r rising h =
      let done = handle_done m C D r (first_pending m C r) h in
      subst (λ (D : Core E). IsRising m D.held) done.made (rising_still (m.sends (state m r (C.history r)) done.event) C.held rising)

  pub rising_undoing : (C : Core E) (r : ℕ) (e : E) (older : List E) → IsRising m C.held → IsRising m (after_undoing m C r e older).held
  rising_undoing C r e older rising = rising_back C.cancel (m.sends (state m r older) e) C.held rising

  -- after undoing
  pub rising_undo : (C D : Core E) (r : ℕ) → IsRising m C.held → undo m C r (C.history r) ≡ Ok D → IsRising m D.held
  rising_undo C D r rising h =
      let done = undo_done m C D r (C.history r) h in
      subst (λ (D : Core E). IsRising m D.held) done.made (rising_undoing C r done.event done.older rising)

  -- after a release
  pub rising_release : (C : Core E) (r : ℕ) → IsRising m C.held → IsRising m (with_release m C r).held
  rising_release C r rising = rising-filter m law (λ x. not (m.src x == r)) C.held rising

  rising_while : (test : E → Bool) (r : ℕ) (xs : List E) (C : Core E) → IsRising m C.held → IsRising m (after_undoing_while m test r xs C).held
  rising_while test r [] C rising = rising
  rising_while test r (e ∷ older) C rising =
      elim (cases_Bool (test e)) [
        | inl goes ↦ rw goes (rising_while test r older (after_undoing m C r e older) (rising_undoing C r e older rising))
        | inr stays ↦ rw stays rising
      ]

  -- after a message, or an antimessage, has come
  pub rising_arrival : (C : Core E) (x : Signed E) → IsRising m C.held → IsRising m (after_arrival m C x).held
  rising_arrival C x rising = go x.plus where
    go : (plus : Bool) → IsRising m (cond plus (after_message m C x.event) (after_antimessage m C x.event)).held
    go true =
        elim (cases_Bool (nat_lt 0 (times m x.event C.kept))) [
          | inl some ↦ rw some rising
          | inr unkept ↦ rw unkept (rising_while (λ y. m.before x.event y) (m.dst x.event) (C.history (m.dst x.event)) C rising)
        ]
    go false =
        elim (cases_Bool (nat_lt 0 (times m x.event C.pending))) [
          | inl some ↦ rw some rising
          | inr absent ↦ rw absent (elim (cases_Bool (nat_lt 0 (times m x.event (C.history (m.dst x.event))))) [
            | inl handled ↦ rw handled (rising_while (λ y. not (m.before y x.event)) (m.dst x.event) (C.history (m.dst x.event)) C rising)
            | inr unhandled ↦ rw unhandled rising
          ])
        ]
