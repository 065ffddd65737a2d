-- The machine of all routers is the same where a router goes from one place to another.
use Rattle.std.proofs.Common.{◌≡◌, ℕ, suc, zero, ◌+◌, ◌<◌, true, List, [], ◌∷◌, Some, flat_map, map, set, slice_get, refl, ap, sym, ◌∙◌, inl, inr, arith}
use Rattle.std.proofs.lemmas.Bool.{cases_Bool, cases_eq, ne_eqb}
use Rattle.tw_core.proofs.Counts.{antimessages-append, messages-append}
use Rattle.tw_core.proofs.Parts.{antimessages-flat_map, messages-flat_map, times-flat_map}
use Rattle.tw_core.specs.declared.limits.TheConstants.{OPENING_ROOM}
use Rattle.tw_core.specs.Machine.{IsSameMachine, antimessages, messages}
use Rattle.tw_core.specs.Parts.{Part, total}
use Rattle.tw_rule.proofs.Moved.{both, get_beside, hand_minus, hand_plus, minus_both, plus_both, rule_moves}
use Rattle.tw_rule.proofs.Places.{all_at, total_map, total_set}
use Rattle.tw_rule.proofs.Ruled.{owners_once, read_of}
use Rattle.tw_rule.specs.Board.{Board}
use Rattle.tw_rule.specs.Moving.{HasFollowed, IsMoved}
use Rattle.tw_rule.specs.Place.{Place, part_of}
use Rattle.tw_rule.specs.Rule.{Rule, assembled, owning}
use Rattle.tw_sim.specs.Simulation.{Simulation, IsLawful, times}

-- what replaces a place of a list is there
get_set : {X : Type 0} (xs : List X) (i : ℕ) (x y : X) → slice_get xs i ≡ Some x → slice_get (set xs i y) i ≡ Some y
get_set [] i x y h = cc
get_set (z ∷ xs) zero x y h = refl
get_set (z ∷ xs) (suc i) x y h = get_set xs i x y h

-- a router that has an owner is owned by one of the places
owner_there : {E : Type 0} (k : ℕ) (ps : List (Place E)) → 0 < total (owning k) ps → (i : ℕ) × (z : Place E) × (slice_get ps i ≡ Some z) × (z.owns k ≡ true)
owner_there k [] some = absurd (omega arith)
owner_there k (p ∷ ps) some =
    elim (cases_Bool (p.owns k)) [
      | inl b ↦ (0, p, refl, b)
      | inr b ↦ (let there = owner_there k ps (let here = rw b at some in omega arith) in (suc there.0, there.1, there.2, there.3))
    ]

module _ {S E : Type 0} (m : Simulation S E) (law : IsLawful m) (who later : ℕ → ℕ) (r i j : ℕ) (x y : Board E) (ps : List (Place E)) (p q p2 q2 : Place E) (rule : Rule m who x ps)
    (in_range : r < m.routers) (first : slice_get ps i ≡ Some p) (second : slice_get ps j ≡ Some q) (other : p.worker ≡ q.worker → ⊥) (was : who r ≡ p.worker) (is_now : later r ≡ q.worker)
    (same : (k : ℕ) → (k ≡ r → ⊥) → later k ≡ who k) (moved : IsMoved m r x p q y p2 q2) where
  abbrev ps2 : List (Place E)
  ps2 = set (set ps i p2) j q2

  moved_rule : Rule m later y ps2
  moved_rule = rule_moves m law who later r x y p q p2 q2 rule.board in_range other was is_now same moved i j ps rule first second

  apart : i ≡ j → ⊥
  apart is = (let at : slice_get ps i ≡ Some q = ap (slice_get ps) is ∙ second in let one : p ≡ q = cc in other (ap (λ z. z.worker) one))

  foreign : q.owns r ≡ true → ⊥
  foreign h = grind (arith, all_at, ne_eqb)

  between : slice_get (set ps i p2) j ≡ Some q
  between = get_beside ps i j q p2 apart second

  first_now : slice_get ps2 i ≡ Some p2
  first_now = get_beside (set ps i p2) j i p2 q2 (λ is. apart (sym is)) (get_set ps i p p2 first)

  second_now : slice_get ps2 j ≡ Some q2
  second_now = get_set (set ps i p2) j q q2 between

  -- what is read of each router at its owner
  stays : {X : Type 0} (f : Place E → ℕ → X) (before after : ℕ → X)
      → ((a k : ℕ) (z : Place E) → slice_get ps a ≡ Some z → k < m.routers → z.owns k ≡ true → before k ≡ f z k)
      → ((a k : ℕ) (z : Place E) → slice_get ps2 a ≡ Some z → k < m.routers → z.owns k ≡ true → after k ≡ f z k)
      → HasFollowed r (f p) (f q) (f p2) (f q2) → (k : ℕ) → k < m.routers → after k ≡ before k
  stays f before after old new followed k l =
      let once = owners_once m law who x ps k rule l in
      let found = owner_there k ps (omega arith) in
      let a = found.0 in
      let z = found.1 in
      let there = found.2 in
      let mine = found.3 in
      elim (cases_eq a i) [
        | inl is ↦
            let at : slice_get ps a ≡ Some p = ap (slice_get ps) is ∙ first in
            let one : z ≡ p = cc in
            let owned : p.owns k ≡ true = ap (λ (w : Place E). w.owns k) (sym one) ∙ mine in
            elim (cases_eq k r) [
              | inl is_r ↦ grind (arith, second_now)
              | inr ne ↦ new i k p2 first_now l (moved.owns.followed.stays_from k ne ∙ owned) ∙ (followed.stays_from k ne ∙ sym (old i k p first l owned))
            ]
        | inr not_i ↦ elim (cases_eq a j) [
          | inl is ↦
              let at : slice_get ps a ≡ Some q = ap (slice_get ps) is ∙ second in
              let one : z ≡ q = cc in
              let owned : q.owns k ≡ true = ap (λ (w : Place E). w.owns k) (sym one) ∙ mine in
              let ne : k ≡ r → ⊥ = λ is_r. foreign (ap q.owns (sym is_r) ∙ owned) in
              new j k q2 second_now l (moved.owns.followed.stays_to k ne ∙ owned) ∙ (followed.stays_to k ne ∙ sym (old j k q second l owned))
          | inr not_j ↦
              let beside = get_beside (set ps i p2) j a z q2 (λ is. not_j (sym is)) (get_beside ps i a z p2 (λ is. not_i (sym is)) there) in
              new a k z beside l mine ∙ sym (old a k z there l mine)
        ]
      ]

  -- a sum over all places in which the two terms together stay
  sum_stays : (f : Place E → ℕ) → f p2 + f q2 ≡ f p + f q → total f ps2 ≡ total f ps
  sum_stays f two = (let a = total_set f ps i p p2 first in let b = total_set f (set ps i p2) j q q2 between in omega arith)

  -- the events of all places
  count : (f : Place E → List E) (e : E) → times m e (f p2) + times m e (f q2) ≡ times m e (f p) + times m e (f q)
      → total (λ z. times m e (f z)) ps2 ≡ total (λ z. times m e (f z)) ps
  count f e two = sum_stays (λ z. times m e (f z)) two

  pending_stays : (e : E) → times m e (assembled y ps2).pending ≡ times m e (assembled x ps).pending
  pending_stays e =
      let two = both m.dst r (λ e. times m e p.pending) (λ e. times m e q.pending) (λ e. times m e p2.pending) (λ e. times m e q2.pending) moved.pending e in
      let after = times-flat_map m e (λ (z : Part E). z.core.pending) (map (part_of y.stop) ps2) ∙ total_map (λ (z : Part E). times m e z.core.pending) (part_of y.stop) ps2 in
      let before = times-flat_map m e (λ (z : Part E). z.core.pending) (map (part_of x.stop) ps) ∙ total_map (λ (z : Part E). times m e z.core.pending) (part_of x.stop) ps in
      after ∙ (count (λ z. z.pending) e two ∙ sym before)

  kept_stays : (e : E) → times m e (assembled y ps2).kept ≡ times m e (assembled x ps).kept
  kept_stays e =
      let two = both m.dst r (λ e. times m e p.kept) (λ e. times m e q.kept) (λ e. times m e p2.kept) (λ e. times m e q2.kept) moved.kept e in
      let after = times-flat_map m e (λ (z : Part E). z.core.kept) (map (part_of y.stop) ps2) ∙ total_map (λ (z : Part E). times m e z.core.kept) (part_of y.stop) ps2 in
      let before = times-flat_map m e (λ (z : Part E). z.core.kept) (map (part_of x.stop) ps) ∙ total_map (λ (z : Part E). times m e z.core.kept) (part_of x.stop) ps in
      after ∙ (count (λ z. z.kept) e two ∙ sym before)

  held_stays : (e : E) → times m e (assembled y ps2).held ≡ times m e (assembled x ps).held
  held_stays e =
      let two = both m.src r (λ e. times m e p.held) (λ e. times m e q.held) (λ e. times m e p2.held) (λ e. times m e q2.held) moved.held e in
      let after = times-flat_map m e (λ (z : Part E). z.core.held) (map (part_of y.stop) ps2) ∙ total_map (λ (z : Part E). times m e z.core.held) (part_of y.stop) ps2 in
      let before = times-flat_map m e (λ (z : Part E). z.core.held) (map (part_of x.stop) ps) ∙ total_map (λ (z : Part E). times m e z.core.held) (part_of x.stop) ps in
      after ∙ (count (λ z. z.held) e two ∙ sym before)

  -- and the messages of all places and of the mail
  abbrev flights : ℕ → List (Place E) → List (Part E)
  flights stop zs = map (part_of stop) zs

  plus_stays : (e : E) → messages m e (assembled y ps2).flight ≡ messages m e (assembled x ps).flight
  plus_stays e = grind (arith, messages-append, flat_map, messages-flat_map, total_map, total_set, set, between, plus_both, hand_plus)

  minus_stays : (e : E) → antimessages m e (assembled y ps2).flight ≡ antimessages m e (assembled x ps).flight
  minus_stays e = grind (arith, antimessages-append, flat_map, antimessages-flat_map, total_map, total_set, set, between, minus_both, hand_minus)

  pub machine_moves : IsSameMachine m (assembled x ps) (assembled y ps2)
  machine_moves = record {
    history = stays (λ z k. z.history k) (assembled x ps).history (assembled y ps2).history
        (λ a k z there l mine. read_of m law who (λ C. C.history k) [] x ps a k z rule there l mine)
        (λ a k z there l mine. read_of m law later (λ C. C.history k) [] y ps2 a k z moved_rule there l mine) moved.history.followed;
    done = stays (λ z k. z.done k) (assembled x ps).done (assembled y ps2).done
        (λ a k z there l mine. read_of m law who (λ C. C.done k) 0 x ps a k z rule there l mine)
        (λ a k z there l mine. read_of m law later (λ C. C.done k) 0 y ps2 a k z moved_rule there l mine) moved.done;
    past = stays (λ z k. z.past k) (assembled x ps).past (assembled y ps2).past
        (λ a k z there l mine. read_of m law who (λ C. C.past k) 0 x ps a k z rule there l mine)
        (λ a k z there l mine. read_of m law later (λ C. C.past k) 0 y ps2 a k z moved_rule there l mine) moved.past.followed;
    room = stays (λ z k. z.room k) (assembled x ps).room (assembled y ps2).room
        (λ a k z there l mine. read_of m law who (λ C. C.room k) OPENING_ROOM x ps a k z rule there l mine)
        (λ a k z there l mine. read_of m law later (λ C. C.room k) OPENING_ROOM y ps2 a k z moved_rule there l mine) moved.room;
    pending = pending_stays;
    kept = kept_stays;
    plus = plus_stays;
    minus = minus_stays;
    held = held_stays;
    bound = moved.board.bound;
    stop = moved.board.stop;
  }
