-- The rule is kept where a router goes from one place to another.
use Rattle.std.proofs.Common.{rules, ◌≡◌, ℕ, suc, zero, ◌+◌, ◌<◌, ◌≤◌, ◌==◌, cond, true, false, List, [], ◌∷◌, ◌++◌, Some, set, slice_get, refl, ap, sym, ◌∙◌, subst, inl, inr, arith}
use Rattle.std.proofs.lemmas.Bool.{cases_eq, cases_lt, eq-eqb, ne_eqb}
use Rattle.tw_core.proofs.Counts.{antimessages-append, messages-append}
use Rattle.tw_core.specs.Good.{IsGoodPart, times_there}
use Rattle.tw_core.specs.Machine.{AreCounted, antimessages, messages, times_handled, times_loose}
use Rattle.tw_core.specs.Parts.{times_wanted, total}
use Rattle.tw_rule.proofs.Places.{all_at, each_set, total_set}
use Rattle.tw_rule.proofs.Visits.{stands_from}
use Rattle.tw_rule.specs.Board.{Board, IsBoard, times_among}
use Rattle.tw_rule.specs.Moving.{HaveGone, IsMoved}
use Rattle.tw_rule.specs.Place.{IsPlace, NoneLooseBefore, Place, in_hand, place_core, whole}
use Rattle.tw_rule.specs.Rule.{Rule, Stands, is_at}
use Rattle.tw_sim.proofs.Counts.{in_head}
use Rattle.tw_sim.specs.Simulation.{Simulation, IsFalling, IsLawful, sent, times}

-- a place of a list stays where another is replaced
pub get_beside : {X : Type 0} (xs : List X) (i j : ℕ) (x y : X) → (i ≡ j → ⊥) → slice_get xs j ≡ Some x → slice_get (set xs i y) j ≡ Some x
get_beside [] i j x y other h = cc
get_beside (z ∷ xs) zero zero x y other h = absurd (other refl)
get_beside (z ∷ xs) zero (suc j) x y other h = h
get_beside (z ∷ xs) (suc i) zero x y other h = h
get_beside (z ∷ xs) (suc i) (suc j) x y other h = get_beside xs i j x y (λ is. other (ap suc is)) h

-- counts of two places: none is more at the first, no more are at the second than there were, and the sum stays
module _ {E : Type 0} (whose : E → ℕ) (r : ℕ) (a b a2 b2 : E → ℕ) (h : HaveGone whose r a b a2 b2) (e : E) where
  pub fewer : a2 e ≤ a e
  fewer = grind arith

  pub no_more : b2 e ≤ a e + b e
  no_more = grind arith

  pub both : a2 e + b2 e ≡ a e + b e
  both = grind arith

module _ {S E : Type 0} (m : Simulation S E) (law : IsLawful m) where
  -- a list in which nothing is counted is empty
  no_events : (xs : List E) → ((e : E) → times m e xs ≡ 0) → xs ≡ []
  no_events [] h = refl
  no_events (x ∷ xs) h = (let k = h x in let l = in_head m law x xs in absurd (omega arith))

  -- the messages of a hand, by its three lists
  pub hand_plus : (z : Place E) (e : E) → messages m e (in_hand z) ≡ messages m e z.mail + messages m e z.unsent + messages m e z.outgoing
  hand_plus z e = (let a = messages-append m e (z.mail ++ z.unsent) z.outgoing in let b = messages-append m e z.mail z.unsent in omega arith)

  pub hand_minus : (z : Place E) (e : E) → antimessages m e (in_hand z) ≡ antimessages m e z.mail + antimessages m e z.unsent + antimessages m e z.outgoing
  hand_minus z e = (let a = antimessages-append m e (z.mail ++ z.unsent) z.outgoing in let b = antimessages-append m e z.mail z.unsent in omega arith)

  module _ (who later : ℕ → ℕ) (r : ℕ) (x y : Board E) (p q p2 q2 : Place E) (board : IsBoard m x) (in_range : r < m.routers) (other : p.worker ≡ q.worker → ⊥)
      (was : who r ≡ p.worker) (is_now : later r ≡ q.worker) (same : (k : ℕ) → (k ≡ r → ⊥) → later k ≡ who k) (moved : IsMoved m r x p q y p2 q2) where
    -- ---- the mail

    plus_fewer : (e : E) → messages m e p2.mail ≤ messages m e p.mail
    plus_fewer e = grind arith

    minus_fewer : (e : E) → antimessages m e p2.mail ≤ antimessages m e p.mail
    minus_fewer e = grind arith

    pub plus_both : (e : E) → messages m e p2.mail + messages m e q2.mail + messages m e y.mail ≡ messages m e p.mail + messages m e q.mail + messages m e x.mail
    plus_both e = grind arith

    pub minus_both : (e : E) → antimessages m e p2.mail + antimessages m e q2.mail + antimessages m e y.mail ≡ antimessages m e p.mail + antimessages m e q.mail + antimessages m e x.mail
    minus_both e = grind arith

    -- the board is still one
    board_moved : IsBoard m y
    board_moved = grind arith

    -- ---- the first place

    -- what holds of each history, and of none, still does
    from_each : (P : ℕ → List E → Type 0) → P r [] → ((k : ℕ) → P k (p.history k)) → (k : ℕ) → P k (p2.history k)
    from_each P none old k = grind arith

    handled_from : (e : E) → times_handled m (whole 0 p2) e ≤ times_handled m (whole 0 p) e
    handled_from e = from_each (λ k xs. times m e xs ≤ times m e (p.history k)) (omega arith) (λ k. omega arith) (m.dst e)

    loose_from : (e : E) → times_loose m (whole 0 p2) e ≤ times_loose m (whole 0 p) e
    loose_from e = grind (arith, fewer, plus_fewer, minus_fewer, hand_plus, hand_minus)

    good_from : (stop : ℕ) → IsGoodPart m 0 (whole stop p) → IsGoodPart m 0 (whole stop p2)
    good_from stop good = grind (arith, from_each, cases_eq, handled_from, loose_from)

    -- as many are counted as are committed
    counted_from : (stop : ℕ) → AreCounted m (place_core stop p) → AreCounted m (place_core stop p2)
    counted_from stop counted k = grind arith

    place_from : (stop : ℕ) → NoneLooseBefore m x.bound p → IsPlace m stop p → IsPlace m stop p2
    place_from stop from place = grind (arith, good_from, cases_eq, loose_from, counted_from)

    stands_moved_from : Stands m who x p → Stands m later y p2
    stands_moved_from stands = grind (arith, cases_eq, ne_eqb, place_from, stands_from, loose_from)

    -- any other worker's place stands as before
    stands_beside : (z : Place E) → Stands m who x z → (z.worker ≡ p.worker → ⊥) → (z.worker ≡ q.worker → ⊥) → Stands m later y z
    stands_beside z stands not_p not_q = grind arith

    -- ---- the second place

    module _ (stands_p : Stands m who x p) (stands_q : Stands m who x q) where
      foreign : q.owns r ≡ true → ⊥
      foreign h = (let no : q.owns r ≡ false = stands_q.owns r in_range ∙ ne_eqb (who r) q.worker (λ k. other (sym was ∙ k)) in cc)

      nothing : q.history r ≡ []
      nothing = no_events (q.history r) (λ e. elim (cases_lt 0 (times m e (q.history r))) [
        | inl l ↦ absurd (foreign (stands_q.place.history r e l))
        | inr ge ↦ omega arith
      ])

      -- nothing waited there for the router
      none_waits : (e : E) → m.dst e ≡ r → times m e q.pending + times m e q.kept + times_among m e q.mail ≡ 0
      none_waits e is = grind arith

      to_each : (P : ℕ → List E → Type 0) → ((k : ℕ) → P k (p.history k)) → ((k : ℕ) → P k (q.history k)) → (k : ℕ) → P k (q2.history k)
      to_each P first second k = grind arith

      handled_to : (e : E) → times_handled m (whole 0 q2) e ≤ times_handled m (whole 0 p) e + times_handled m (whole 0 q) e
      handled_to e = to_each (λ k xs. times m e xs ≤ times m e (p.history k) + times m e (q.history k)) (λ k. omega arith) (λ k. omega arith) (m.dst e)

      loose_to : (e : E) → times_loose m (whole 0 q2) e ≤ times_loose m (whole 0 p) e + times_loose m (whole 0 q) e + times_among m e x.mail
      loose_to e = grind (arith, no_more, plus_both, minus_both, hand_plus, hand_minus)

      good_to : IsGoodPart m 0 (whole x.stop q2)
      good_to =
          let first = stands_p.place.good in
          let second = stands_q.place.good in
          record {
            falling = to_each (λ k xs. IsFalling m xs) first.falling second.falling;
            home = to_each (λ k xs. (e : E) → 0 < times m e xs → m.dst e ≡ k) first.home second.home;
            soon = to_each (λ k xs. (e : E) → 0 < times m e xs → m.time e < x.stop) first.soon second.soon;
            late = λ e h. omega arith;
            ahead = λ e z h k. elim (cases_eq (m.dst e) r) [
              | inl is ↦
                  let came = (moved.pending.gone e is).1 in
                  let none = none_waits e is in
                  let here : q2.history (m.dst e) ≡ p.history (m.dst e) = ap q2.history is ∙ (moved.history.followed.came ∙ ap p.history (sym is)) in
                  first.ahead e z (omega arith) (subst (λ xs. 0 < times m z xs) here k)
              | inr ne ↦ (let stayed = moved.pending.stays_to e ne in second.ahead e z (omega arith) (subst (λ xs. 0 < times m z xs) (moved.history.followed.stays_to (m.dst e) ne) k))
            ];
            alone = λ e h. grind arith;
            suit = λ e h. elim (cases_lt 0 (times_handled m (whole 0 p) e + times_loose m (whole 0 p) e)) [
              | inl l ↦ first.suit e l
              | inr ge ↦ elim (cases_lt 0 (times_handled m (whole 0 q) e + times_loose m (whole 0 q) e)) [
                | inl l ↦ second.suit e l
                | inr ge2 ↦ (let a = handled_to e in let b = loose_to e in board.suit e (omega arith))
              ]
            ];
          }

      late_to : (e : E) → 0 < times_loose m (whole 0 q2) e → x.bound ≤ m.time e
      late_to e h = grind (arith, cases_lt, stands_from, loose_to)

      counted_to : AreCounted m (place_core x.stop q2)
      counted_to k = grind arith

      place_to : IsPlace m x.stop q2
      place_to = grind (arith, good_to, cases_eq, late_to, counted_to)

      stands_moved_to : Stands m later y q2
      stands_moved_to = grind (arith, cases_eq, eq-eqb, place_to, late_to)

      -- ---- the balance

      history_sum : (f : List E → ℕ) → f [] ≡ 0 → (k : ℕ) → f (p2.history k) + f (q2.history k) ≡ f (p.history k) + f (q.history k)
      history_sum f none k = grind (arith, cases_eq, nothing)

      balanced : (e : E) → times_wanted m (whole 0 p2) e + times_wanted m (whole 0 q2) e + (times_there m (whole 0 p) e + times_there m (whole 0 q) e)
          + (antimessages m e y.mail + messages m e x.mail)
          ≡ times_wanted m (whole 0 p) e + times_wanted m (whole 0 q) e + (times_there m (whole 0 p2) e + times_there m (whole 0 q2) e)
          + (messages m e y.mail + antimessages m e x.mail)
      balanced e =
          let sends = history_sum (λ xs. times m e (sent m (m.src e) xs)) refl (m.src e) in
          let handles = history_sum (λ xs. times m e xs) refl (m.dst e) in
          let a = both m.dst r (λ e. times m e p.pending) (λ e. times m e q.pending) (λ e. times m e p2.pending) (λ e. times m e q2.pending) moved.pending e in
          let b = both m.dst r (λ e. times m e p.kept) (λ e. times m e q.kept) (λ e. times m e p2.kept) (λ e. times m e q2.kept) moved.kept e in
          let c = both m.src r (λ e. times m e p.held) (λ e. times m e q.held) (λ e. times m e p2.held) (λ e. times m e q2.held) moved.held e in
          let d = plus_both e in
          let f = minus_both e in
          let g = hand_plus p e in
          let g2 = hand_plus p2 e in
          let h = hand_plus q e in
          let h2 = hand_plus q2 e in
          let i = hand_minus p e in
          let i2 = hand_minus p2 e in
          let j = hand_minus q e in
          let j2 = hand_minus q2 e in
          let k : messages m e q2.outgoing ≡ messages m e q.outgoing = ap (messages m e) moved.sent_to.outgoing in
          let l : antimessages m e q2.outgoing ≡ antimessages m e q.outgoing = ap (antimessages m e) moved.sent_to.outgoing in
          let n : messages m e q2.unsent ≡ messages m e q.unsent = ap (messages m e) moved.sent_to.unsent in
          let o : antimessages m e q2.unsent ≡ antimessages m e q.unsent = ap (antimessages m e) moved.sent_to.unsent in
          let k2 : messages m e p2.outgoing ≡ messages m e p.outgoing = ap (messages m e) moved.sent_from.outgoing in
          let l2 : antimessages m e p2.outgoing ≡ antimessages m e p.outgoing = ap (antimessages m e) moved.sent_from.outgoing in
          let n2 : messages m e p2.unsent ≡ messages m e p.unsent = ap (messages m e) moved.sent_from.unsent in
          let o2 : antimessages m e p2.unsent ≡ antimessages m e p.unsent = ap (antimessages m e) moved.sent_from.unsent in
          omega arith

    -- ---- the rule

    pub rule_moves : (i j : ℕ) (ps : List (Place E)) → Rule m who x ps → slice_get ps i ≡ Some p → slice_get ps j ≡ Some q → Rule m later y (set (set ps i p2) j q2)
    rule_moves i j ps rule first second =
        let stands_p = all_at (Stands m who x) ps i p first rule.each in
        let stands_q = all_at (Stands m who x) ps j q second rule.each in
        let apart : i ≡ j → ⊥ = λ is. (let at : slice_get ps i ≡ Some q = ap (slice_get ps) is ∙ second in let one : p ≡ q = cc in other (ap (λ z. z.worker) one)) in
        let between = get_beside ps i j q p2 apart second in
        let one_p = rule.places p.worker stands_p.worker in
        let one_q = rule.places q.worker stands_q.worker in
        let count = λ (w : ℕ). (
        let once = total_set (is_at w) ps i p p2 first in
        let at : is_at w p2 ≡ is_at w p = ap (λ v. cond (v == w) 1 0) moved.worker_from in
        let stays : total (is_at w) (set ps i p2) ≡ total (is_at w) ps = omega arith in
        stays) in
        record {
          board = board_moved;
          each = each_set q.worker (λ z. (z.worker ≡ q.worker → ⊥) → Stands m later y z) (Stands m later y) (λ z h ne. h ne) (set ps i p2) j q q2 between refl
              (count q.worker ∙ one_q) (stands_moved_to stands_p stands_q)
              (each_set p.worker (Stands m who x) (λ z. (z.worker ≡ q.worker → ⊥) → Stands m later y z) stands_beside ps i p p2 first refl one_p
              (λ ne. stands_moved_from stands_p) rule.each);
          places = λ w l. (
              let again = total_set (is_at w) (set ps i p2) j q q2 between in
              let at : is_at w q2 ≡ is_at w q = ap (λ v. cond (v == w) 1 0) moved.worker_to in
              let stays = count w in
              let one = rule.places w (subst (λ n. w < n) moved.board.workers l) in
              omega arith);
          routers = λ k l. elim (cases_eq k r) [
            | inl is ↦ (let a : later k ≡ q.worker = ap later is ∙ is_now in let b = stands_q.worker in let c = moved.board.workers in omega arith)
            | inr ne ↦ (let a = same k ne in let b = rule.routers k l in let c = moved.board.workers in omega arith)
          ];
          balance = search (rules, total_set, set, balanced);
        }
