-- What each call at a place keeps.
use Rattle.std.proofs.Common.{◌≡◌, ℕ, suc, zero, ◌+◌, ◌<◌, ◌≤◌, ◌==◌, true, false, List, [], ◌∷◌, ◌++◌, map, append_assoc, Ok, Some, remove, slice_get, refl, ap, sym, ◌∙◌, subst, inl, inr, arith}
use Rattle.std.proofs.lemmas.Bool.{cases_Bool}
use Rattle.tw_sim.proofs.Counts.{in_head}
use Rattle.tw_core.proofs.Counted.{commit_counted}
use Rattle.tw_core.proofs.Counts.{antimessages-append, antimessages-remove, in_flight, messages-append, messages-remove}
use Rattle.tw_core.proofs.Delivery.{delivered, part_loose}
use Rattle.tw_core.proofs.Done.{handle_done}
use Rattle.tw_core.proofs.Own.{own_arrival, own_handle, own_release, own_undoing}
use Rattle.tw_core.proofs.Steps.{keeps_handling, may_handle, release_keeps, undoing_keeps}
use Rattle.tw_core.proofs.Wording.{arrival-front}
use Rattle.tw_core.specs.Good.{IsGoodPart}
use Rattle.tw_core.specs.Machine.{AreCounted, Core, antimessages, messages, times_loose}
use Rattle.tw_core.specs.Parts.{IsOwn, PreservesPart, SameSurplus}
use Rattle.tw_core.specs.Steps.{after_arrival, after_delivery, after_handling, after_undoing, antimessage, first_pending, from, handle, with_commit, with_release, with_room, AreUndone, IsRolledBack}
use Rattle.tw_rule.proofs.Before.{same_before}
use Rattle.tw_rule.specs.Board.{times_among}
use Rattle.tw_rule.specs.Place.{IsPlace, NoneLooseBefore, Place, PreservesPlace, in_hand, place_core, whole, with_core, with_unsent}
use Rattle.tw_sim.specs.declared.machine.Signed.{Signed}
use Rattle.tw_sim.specs.Simulation.{Simulation, IsLawful, times}

-- ---- lists

-- a place of a list stays where another list follows
pub get_front : {X : Type 0} (xs ys : List X) (k : ℕ) (x : X) → slice_get xs k ≡ Some x → slice_get (xs ++ ys) k ≡ Some x
get_front [] ys k x h = cc
get_front (z ∷ xs) ys zero x h = h
get_front (z ∷ xs) ys (suc k) x h = get_front xs ys k x h

pub remove_front : {X : Type 0} (xs ys : List X) (k : ℕ) (x : X) → slice_get xs k ≡ Some x → remove (xs ++ ys) k ≡ remove xs k ++ ys
remove_front [] ys k x h = cc
remove_front (z ∷ xs) ys zero x h = refl
remove_front (z ∷ xs) ys (suc k) x h = ap (λ l. z ∷ l) (remove_front xs ys k x h)

-- messages in front of what a machine has in flight
abbrev pub behind : {E : Type 0} → List (Signed E) → Core E → Core E
behind front C = record C { flight = front ++ C.flight }

module _ {S E : Type 0} (m : Simulation S E) where
  handling-front : (front : List (Signed E)) (C : Core E) (r : ℕ) (e : E) → after_handling m (behind front C) r e ≡ behind front (after_handling m C r e)
  handling-front front C r e = grind (arith, append_assoc)

  undoing-front : (front : List (Signed E)) (C : Core E) (r : ℕ) (e : E) (older : List E) → after_undoing m (behind front C) r e older ≡ behind front (after_undoing m C r e older)
  undoing-front front C r e older = grind (arith, append_assoc)

  -- a part in which nothing loose is before another time
  pub part_from : (t : ℕ) (C : Core E) → IsGoodPart m 0 C → ((e : E) → 0 < times_loose m C e → t ≤ m.time e) → IsGoodPart m t C
  part_from t C good late = grind arith

  -- what is among the messages of a hand is loose
  pub in_hand_loose : (p : Place E) (e : E) → 0 < times_among m e p.mail + times_among m e p.unsent → 0 < times_loose m (whole 0 p) e
  in_hand_loose p e h = grind (arith, messages-append, antimessages-append)

  -- its routers are its own
  own_routers : (stop : ℕ) (p : Place E) → IsPlace m stop p → IsOwn m p.owns (place_core stop p)
  own_routers stop p place = record { history = place.history; waiting = λ e h. place.waiting e (omega arith); held = place.held }

  module _ (law : IsLawful m) where
    -- where nothing is committed, what was committed stays, and so it is counted
    uncommitting : (stop : ℕ) (p q : Place E) → IsPlace m stop p → IsGoodPart m 0 (whole stop q) → ((t : ℕ) → NoneLooseBefore m t p → NoneLooseBefore m t q) → SameSurplus m (whole 0 p) (whole 0 q)
        → q.done ≡ p.done → q.past ≡ p.past → AreCounted m (place_core stop q)
    uncommitting stop p q place good late surplus done past r = grind (arith, same_before)

    -- what a call at its routers keeps, while the rest of the hand is on its way
    kept : (stop : ℕ) (p : Place E) (mail : List (Signed E)) (D : Core E) → IsPlace m stop p → ((e : E) → times_among m e mail ≤ times_among m e p.mail) → IsOwn m p.owns D
        → ((t : ℕ) → IsGoodPart m t (whole stop p) → PreservesPart m t (whole stop p) (behind (mail ++ p.unsent) D))
        → PreservesPlace m stop p (with_core D (record p { mail = mail }))
    kept stop p mail D place less own call =
        let q = with_core D (record p { mail = mail }) in
        let first = call 0 place.good in
        let same : behind (mail ++ p.unsent) D ≡ whole stop q = ap (λ s. record (behind (mail ++ p.unsent) D) { stop = s }) first.stop in
        let bound : D.bound ≡ p.bound = first.bound in
        let done : (r : ℕ) → D.done r ≡ p.done r = λ r. ap (λ f. f r) first.done in
        let still : (t : ℕ) → NoneLooseBefore m t p → NoneLooseBefore m t q = λ t from. (call t (part_from t (whole stop p) place.good from)).part.late in
        let good : IsGoodPart m 0 (whole stop q) = subst (IsGoodPart m 0) same first.part in
        record {
          worker = refl;
          owns = refl;
          place = record {
            good = good;
            history = own.history;
            waiting = λ e h. grind arith;
            held = own.held;
            done = λ r. (let old = place.done r in let now = done r in omega arith);
            late = subst (λ b. NoneLooseBefore m b q) (sym bound) (still p.bound place.late);
            counted = uncommitting stop p q place good still first.surplus first.done first.past;
          };
          late = still;
          surplus = first.surplus;
          done = λ r. (let now = done r in omega arith);
          bound = bound;
        }

    -- handling
    pub keeps_handle : (stop r : ℕ) (p : Place E) (D : Core E) → IsPlace m stop p → handle m (place_core stop p) r (first_pending m (place_core stop p) r) ≡ Ok D
        → PreservesPlace m stop p (with_core D p)
    keeps_handle stop r p D place h =
        let done = handle_done m (place_core stop p) D r (first_pending m (place_core stop p) r) h in
        let front = p.mail ++ p.unsent in
        let made : after_handling m (whole stop p) r done.event ≡ behind front D = handling-front front (place_core stop p) r done.event ∙ ap (behind front) done.made in
        kept stop p p.mail D place (λ e. omega arith) (own_handle m law p.owns (place_core stop p) D r (own_routers stop p place) h)
        (λ t good. subst (PreservesPart m t (whole stop p)) made
        (keeps_handling m law t (whole stop p) r done.event good (may_handle m law t (whole stop p) r done.event good done.found done.soon done.new)))

    -- what is held for a router is taken back
    pub keeps_release : (stop r : ℕ) (p : Place E) → IsPlace m stop p → PreservesPlace m stop p (with_core (with_release m (place_core stop p) r) p)
    keeps_release stop r p place =
        let front = p.mail ++ p.unsent in
        let D = with_release m (place_core stop p) r in
        let made : with_release m (whole stop p) r ≡ behind front D = ap (λ f. record (behind front D) { flight = f }) (append_assoc front p.outgoing (map antimessage (from m r p.held))) in
        kept stop p p.mail D place (λ e. omega arith) (own_release m law p.owns (place_core stop p) r (own_routers stop p place))
        (λ t good. subst (PreservesPart m t (whole stop p)) made (release_keeps m law t (whole stop p) r good))

    -- a router commits
    pub keeps_commit : (stop r : ℕ) (p : Place E) → IsPlace m stop p → PreservesPlace m stop p (with_core (with_commit m (place_core stop p) r) p)
    keeps_commit stop r p place = record {
      worker = refl;
      owns = refl;
      place = record {
        good = grind arith;
        history = place.history;
        waiting = place.waiting;
        held = place.held;
        done = λ q. elim (cases_Bool (q == r)) [
          | inl same ↦ rw same (omega arith)
          | inr other ↦ rw other (place.done q)
        ];
        late = place.late;
        counted = commit_counted m law (place_core stop p) r (place.good.falling r) place.counted;
      };
      late = λ t loose. loose;
      surplus = λ e. refl;
      done = λ q. elim (cases_Bool (q == r)) [
        | inl same ↦ rw same (place.done q)
        | inr other ↦ rw other (omega arith)
      ];
      bound = refl;
    }

    -- a router gets more room
    pub keeps_widen : (stop r : ℕ) (p : Place E) → IsPlace m stop p → PreservesPlace m stop p (with_core (with_room m (place_core stop p) r) p)
    keeps_widen stop r p place = grind arith

    -- a message of the hand is counted there, and is for a router of its own
    at_hand : (p : Place E) (k : ℕ) (s : Signed E) → slice_get p.mail k ≡ Some s → 0 < times_among m s.event p.mail
    at_hand p k s there = in_flight m law p.mail k s there

    pub hand_is_own : (stop : ℕ) (p : Place E) (k : ℕ) (s : Signed E) → IsPlace m stop p → slice_get p.mail k ≡ Some s → p.owns (m.dst s.event) ≡ true
    hand_is_own stop p k s place there = place.waiting s.event (let h = at_hand p k s there in omega arith)

    pub hand_is_loose : (p : Place E) (k : ℕ) (s : Signed E) → slice_get p.mail k ≡ Some s → 0 < times_loose m (whole 0 p) s.event
    hand_is_loose p k s there = in_hand_loose p s.event (let h = at_hand p k s there in omega arith)

    -- a message is received, with all that is then undone
    pub keeps_receive : (stop k : ℕ) (p : Place E) (s : Signed E) → IsPlace m stop p → slice_get p.mail k ≡ Some s
        → PreservesPlace m stop p (with_core (after_arrival m (place_core stop p) s) (record p { mail = remove p.mail k }))
    keeps_receive stop k p s place there =
        let rest = remove p.mail k in
        let in_front = get_front p.mail p.unsent k s there in
        let flight : remove (in_hand p) k ≡ (rest ++ p.unsent) ++ p.outgoing =
        remove_front (p.mail ++ p.unsent) p.outgoing k s in_front ∙ ap (λ f. f ++ p.outgoing) (remove_front p.mail p.unsent k s there) in
        let made : after_delivery m (whole stop p) k s ≡ behind (rest ++ p.unsent) (after_arrival m (place_core stop p) s) =
        ap (λ f. after_arrival m (record (whole stop p) { flight = f }) s) flight ∙ arrival-front m (place_core stop p) s (rest ++ p.unsent) in
        let alone = part_loose m law 0 (whole stop p) p.pending p.kept p.outgoing place.good
        (λ e h. (
        let a = messages-append m e (p.mail ++ p.unsent) p.outgoing in
        let b = antimessages-append m e (p.mail ++ p.unsent) p.outgoing in
        omega arith))
        place.good.ahead place.good.alone in
        kept stop p rest (after_arrival m (place_core stop p) s) place
        (λ e. (let a = messages-remove m e p.mail k s there in let b = antimessages-remove m e p.mail k s there in omega arith))
        (own_arrival m law p.owns 0 (place_core stop p) s alone (own_routers stop p place) (hand_is_own stop p k s place there))
        (λ t good. subst (PreservesPart m t (whole stop p)) made (delivered m law t (whole stop p) k s good (get_front (p.mail ++ p.unsent) p.outgoing k s in_front)))

    -- an event that is not before a message is no earlier
    not_earlier : (e x : E) → m.before e x ≡ false → m.time x ≤ m.time e
    not_earlier e x h = grind arith

    -- one event is undone, while such a message is in the hand
    keeps_undo : (stop k : ℕ) (p : Place E) (s : Signed E) (e : E) (older : List E) → IsPlace m stop p → slice_get p.mail k ≡ Some s → p.history (m.dst s.event) ≡ e ∷ older
        → m.before e s.event ≡ false → PreservesPlace m stop p (with_core (after_undoing m (place_core stop p) (m.dst s.event) e older) p)
    keeps_undo stop k p s e older place there newest order =
        let r = m.dst s.event in
        let front = p.mail ++ p.unsent in
        let home : m.dst e ≡ r = place.good.home r e (subst (λ xs. 0 < times m e xs) (sym newest) (in_head m law e older)) in
        let late = not_earlier e s.event order in
        kept stop p p.mail (after_undoing m (place_core stop p) r e older) place (λ x. omega arith)
        (own_undoing m law p.owns (place_core stop p) r e older home newest (own_routers stop p place))
        (λ t good. subst (PreservesPart m t (whole stop p)) (undoing-front front (place_core stop p) r e older)
        (undoing_keeps m law t (whole stop p) r e older (let loose = good.late s.event (hand_is_loose p k s there) in omega arith) good newest))

    keeps_same : (stop : ℕ) (p : Place E) → IsPlace m stop p → PreservesPlace m stop p p
    keeps_same stop p place = record { worker = refl; owns = refl; place = place; late = λ t from. from; surplus = λ e. refl; done = λ r. omega arith; bound = refl }

    keeps_both : (stop : ℕ) (p q r : Place E) → PreservesPlace m stop p q → PreservesPlace m stop q r → PreservesPlace m stop p r
    keeps_both stop p q r first second = grind arith

    rolled : (n stop k : ℕ) (p : Place E) (s : Signed E) (D : Core E) → IsPlace m stop p → slice_get p.mail k ≡ Some s → AreUndone m n s.event (place_core stop p) D
        → PreservesPlace m stop p (with_core D p) × (D.stop ≡ stop)
    rolled zero stop k p s D place there h = subst (λ C. PreservesPlace m stop p (with_core C p) × (C.stop ≡ stop)) (sym h) (keeps_same stop p place, refl)
    rolled (suc n) stop k p s D place there h =
        let B = h.0 in
        let e = h.2.0 in
        let older = h.2.1 in
        let first = rolled n stop k p s B place there h.1 in
        let same : place_core stop (with_core B p) ≡ B = ap (λ t. record B { stop = t }) (sym first.1) in
        let next = keeps_undo stop k (with_core B p) s e older first.0.place there h.2.2 h.2.3 in
        let made : after_undoing m (place_core stop (with_core B p)) (m.dst s.event) e older ≡ D = ap (λ C. after_undoing m C (m.dst s.event) e older) same ∙ sym h.2.4 in
        (keeps_both stop p (with_core B p) (with_core D p) first.0 (subst (λ C. PreservesPlace m stop (with_core B p) (with_core C p)) made next), ap (λ C. C.stop) h.2.4 ∙ first.1)

    -- a message in the hand has been met, but not received for want of memory
    pub keeps_roll_back : (stop k : ℕ) (p : Place E) (s : Signed E) (D : Core E) → IsPlace m stop p → slice_get p.mail k ≡ Some s → IsRolledBack m s.event (place_core stop p) D
        → PreservesPlace m stop p (with_core D p)
    keeps_roll_back stop k p s D place there h = (rolled h.0 stop k p s D place there h.1).0

    -- messages go from the outgoing ones to the unsent ones, or back
    pub keeps_unsent : (stop : ℕ) (p : Place E) (unsent outgoing : List (Signed E)) → IsPlace m stop p
        → ((e : E) → messages m e unsent + messages m e outgoing ≡ messages m e p.unsent + messages m e p.outgoing)
        → ((e : E) → antimessages m e unsent + antimessages m e outgoing ≡ antimessages m e p.unsent + antimessages m e p.outgoing)
        → PreservesPlace m stop p (with_unsent unsent outgoing p)
    keeps_unsent stop p unsent outgoing place plus minus = grind (arith, messages-append, antimessages-append, part_loose)
