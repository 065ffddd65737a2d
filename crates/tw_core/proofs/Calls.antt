-- What handling and undoing one event keep: a good part, and every surplus.
use Rattle.std.proofs.Common.{◌≡◌, ℕ, ◌+◌, ◌<◌, ◌≤◌, true, false, List, ◌∷◌, map, refl, ap, sym, ◌∙◌, subst, ◌⊎◌, inl, inr, arith, nat_lt}
use Rattle.std.proofs.lemmas.Bool.{cases_Bool, cases_eq, eq-eqb, ne_eqb, ltb-true, ltb-false}
use Rattle.tw_core.proofs.Counts.{antimessages-append, antimessages-message, messages-append, messages-message, messages-sent_back, times-held_back, times-still_held, times-to_send}
use Rattle.tw_core.specs.Good.{IsGoodPart}
use Rattle.tw_core.specs.Machine.{Core, times_handled, times_loose}
use Rattle.tw_core.specs.Parts.{SameSurplus}
use Rattle.tw_core.specs.Steps.{after_handling, after_undoing, message, put, sent_back, take_out, to_send}
use Rattle.tw_sim.proofs.Counts.{none, one_cases, one_self, times-append, times-insert, times-take_out}
use Rattle.tw_sim.proofs.Rising.{not_back}
use Rattle.tw_sim.specs.Simulation.{Simulation, IsFalling, IsLawful, one, sent, state, times}

-- there, the new value
pub put_same : {A : Type 0} (f : ℕ → A) (r : ℕ) (a : A) → put f r a r ≡ a
put_same f r a = rw (eq-eqb r r refl) refl

-- elsewhere, the old one
pub put_other : {A : Type 0} (f : ℕ → A) (r q : ℕ) (a : A) → (q ≡ r → ⊥) → put f r a q ≡ f q
put_other f r q a h = rw (ne_eqb q r h) refl

module _ {S E : Type 0} (m : Simulation S E) where
  -- some histories, and those with one event more, at its router
  pub record IsGrown (f g : ℕ → List E) (e : E) : Type 0 where
    pub here : g (m.dst e) ≡ e ∷ f (m.dst e)
    pub elsewhere : (r : ℕ) → (r ≡ m.dst e → ⊥) → g r ≡ f r

  -- what the refusals leave: e is its router's first pending event, before the stop, and after all that the router has handled
  pub record MayHandle (C : Core E) (e : E) : Type 0 where
    pub there : 0 < times m e C.pending
    pub soon : m.time e < C.stop
    pub first : (x : E) → 0 < times m x C.pending → m.dst x ≡ m.dst e → m.before x e ≡ false
    pub fresh : (x : E) → 0 < times m x (C.history (m.dst e)) → m.before x e ≡ true

  grown_by_handling : (C : Core E) (e : E) → IsGrown C.history (after_handling m C (m.dst e) e).history e
  grown_by_handling C e = grind arith

  grown_by_undoing : (C : Core E) (e : E) (older : List E) → C.history (m.dst e) ≡ e ∷ older → IsGrown (after_undoing m C (m.dst e) e older).history C.history e
  grown_by_undoing C e older h = grind arith

  module _ (law : IsLawful m) where
    module _ (f g : ℕ → List E) (e : E) (grown : IsGrown f g e) where
      -- the event stands once more
      times_grown : (x : E) → times m x (g (m.dst x)) ≡ one m x e + times m x (f (m.dst x))
      times_grown x = grind arith

      -- and what it sends is sent besides
      sent_grown : (x : E) → times m x (sent m (m.src x) (g (m.src x)))
          ≡ times m x (m.sends (state m (m.dst e) (f (m.dst e))) e) + times m x (sent m (m.src x) (f (m.src x)))
      sent_grown x = grind (arith, cases_eq, times-append, none)

      -- who stands in the longer histories stands in the shorter ones, or is the event at its router
      in_grown : (r : ℕ) (x : E) → 0 < times m x (g r) → ((x ≡ e) × (r ≡ m.dst e)) ⊎ (0 < times m x (f r))
      in_grown r x h = grind arith

      -- who stands in the shorter ones stands in the longer ones
      in_longer : (r : ℕ) (x : E) → 0 < times m x (f r) → 0 < times m x (g r)
      in_longer r x h = grind arith

    -- ---- handling

    module _ (C : Core E) (e : E) (may : MayHandle C e) where
      abbrev out : List E
      out = m.sends (state m (m.dst e) (C.history (m.dst e))) e

      abbrev going : List E
      going = to_send m out C.held

      abbrev D : Core E
      D = after_handling m C (m.dst e) e

      -- no surplus changes
      pub surplus_handling : SameSurplus m C D
      surplus_handling x =
          let grown = grown_by_handling C e in
          let handled = times_grown C.history D.history e grown x in
          let asked = sent_grown C.history D.history e grown x in
          let taken = times-take_out m law x e C.pending may.there in
          let plus = messages-append m x C.flight (map message going) in
          let plus_out = messages-message m x going in
          let minus = antimessages-append m x C.flight (map message going) in
          let minus_out = antimessages-message m x going in
          let again = times-to_send m law x out C.held in
          omega arith

      -- what is loose afterwards was loose, or is sent
      loose_handling : (x : E) → times_loose m D x + one m x e ≤ times_loose m C x + times m x out
      loose_handling x = grind (arith, times-take_out, messages-append, messages-message, antimessages-append, antimessages-message, times-to_send, times-still_held)

      -- the part is as good as it was
      pub part_handling : (t : ℕ) → IsGoodPart m t C → IsGoodPart m t D
      part_handling t good =
          let grown = grown_by_handling C e in
          let loose : 0 < times_loose m C e = (let k = may.there in omega arith) in
          record {
            falling = λ r. elim (cases_eq r (m.dst e)) [
              | inl same ↦ subst (λ q. IsFalling m (D.history q)) (sym same) (subst (IsFalling m) (sym grown.here) (may.fresh, good.falling (m.dst e)))
              | inr other ↦ subst (IsFalling m) (sym (grown.elsewhere r other)) (good.falling r)
            ];
            home = λ r x h. elim (in_grown C.history D.history e grown r x h) [
              | inl is ↦ ap m.dst is.0 ∙ sym is.1
              | inr old ↦ good.home r x old
            ];
            soon = λ r x h. elim (in_grown C.history D.history e grown r x h) [
              | inl is ↦ subst (λ z. m.time z < C.stop) (sym is.0) may.soon
              | inr old ↦ good.soon r x old
            ];
            late = λ x h. grind (arith, cases_Bool, nat_lt, ltb-true, ltb-false, loose_handling);
            ahead = λ x y waits h. (
                let taken = times-take_out m law x e C.pending may.there in
                elim (in_grown C.history D.history e grown (m.dst x) y h) [
                  | inl is ↦ subst (λ z. m.before x z ≡ false) (sym is.0) (may.first x (omega arith) is.1)
                  | inr old ↦ good.ahead x y (omega arith) old
                ]);
            alone = λ x h. (
                let old = good.alone x h in
                let taken = times-take_out m law x e C.pending may.there in
                let handled = times_grown C.history D.history e grown x in
                let pending = old.0 in
                let before = old.1 in
                ((let done : times m x (take_out m e C.pending) ≡ 0 = omega arith in done), omega arith));
            suit = λ x h. (
                let all = loose_handling x in
                let handled = times_grown C.history D.history e grown x in
                elim (cases_Bool (nat_lt 0 (times m x out))) [
                  | inl b ↦ law.suit_sends e x (C.history (m.dst e))
                      (λ y k. (good.home (m.dst e) y k, good.suit y (subst (λ r. 0 < times m y (C.history r) + times_loose m C y) (sym (good.home (m.dst e) y k)) (omega arith))))
                      (good.suit e (omega arith))
                      (ltb-true 0 (times m x out) b)
                  | inr b ↦ (let no = ltb-false 0 (times m x out) b in good.suit x (omega arith))
                ]);
          }

    -- ---- undoing

    module _ (C : Core E) (e : E) (older : List E) (newest : C.history (m.dst e) ≡ e ∷ older) where
      abbrev back : List E
      back = m.sends (state m (m.dst e) older) e

      abbrev B : Core E
      B = after_undoing m C (m.dst e) e older

      here : B.history (m.dst e) ≡ older
      here = put_same C.history (m.dst e) older

      -- no surplus changes
      pub surplus_undoing : SameSurplus m C B
      surplus_undoing x =
          let grown = grown_by_undoing C e older newest in
          let handled = times_grown B.history C.history e grown x in
          let asked = rw here at (sent_grown B.history C.history e grown x) in
          let waits = times-insert m x e C.pending in
          let plus = messages-append m x C.flight (sent_back m C.cancel back) in
          let plus_out = messages-sent_back m x C.cancel back in
          let minus = antimessages-append m x C.flight (sent_back m C.cancel back) in
          let minus_out = times-held_back m x C.cancel back C.held in
          omega arith

      -- the event is pending in the place of handled
      pub moved_undoing : (x : E) → times_handled m B x + times m x B.pending ≡ times_handled m C x + times m x C.pending
      moved_undoing x = grind (arith, times_grown, grown_by_undoing, times-insert)

      -- what is loose afterwards was loose, is the event, or is what it sent
      loose_undoing : (x : E) → times_loose m B x ≡ times_loose m C x + (one m x e + times m x back)
      loose_undoing x = grind (arith, times-insert, messages-append, messages-sent_back, antimessages-append, times-held_back)

      -- the part is as good as it was, for times that are not beyond the event
      pub part_undoing : (t : ℕ) → t ≤ m.time e → IsGoodPart m t C → IsGoodPart m t B
      part_undoing t late good = grind (arith, grown_by_undoing, one_self, cases_eq, here, in_longer, loose_undoing, one_cases, cases_Bool, nat_lt, ltb-true, ltb-false, times-insert, not_back, times_grown)
