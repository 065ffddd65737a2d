-- The sequential run: its turns come to an end, and running on from a run to an earlier time is running to the later one.
use Rattle.std.proofs.Common.{◌≡◌, ℕ, suc, zero, ◌+◌, ◌-◌, ◌*◌, ◌^◌, ◌<◌, ◌≤◌, cond, List, [], ◌∷◌, length, refl, ap, sym, ◌∙◌, subst, inl, inr, arith, nat_lt, pow-suc, zero-add, suc-add}
use Rattle.std.proofs.Math.Nat.{pow-le-pow_right, one-le-pow, mul-le-mul_right}
use Rattle.std.proofs.lemmas.Bool.{cases_Bool, ltb-true, ltb-false, lt-ltb, le-ltb}
use Rattle.tw_sim.specs.Simulation.{Simulation, IsLawful, times, only, state}
use Rattle.tw_sim.specs.Seq.{World, finished, insert, insert_all, turn, turns, weight}
use Rattle.tw_sim.proofs.Counts.{one_self}

-- the least pending event, if any, is not before t
abbrev pub IsOver : {S E : Type 0} → Simulation S E → ℕ → List E → Type 0
IsOver m t [] = Unit {0}
IsOver m t (x ∷ xs) = t ≤ m.time x

module _ {S E : Type 0} (m : Simulation S E) where
  -- what one event weighs
  abbrev pub load : ℕ → E → ℕ
  load t x = cond (nat_lt (m.time x) t) ((m.most + 1) ^ (t - m.time x)) 0

  weight-insert : (t : ℕ) (x : E) (xs : List E) → weight m t (insert m x xs) ≡ load t x + weight m t xs
  weight-insert t x [] = refl
  weight-insert t x (y ∷ ys) =
      elim (cases_Bool (m.before y x)) [
        | inl b ↦ let h = weight-insert t x ys in rw b (omega arith)
        | inr b ↦ rw b refl
      ]

  weight-insert_all : (t : ℕ) (xs ys : List E) → weight m t (insert_all m xs ys) ≡ weight m t xs + weight m t ys
  weight-insert_all t [] ys = omega arith
  weight-insert_all t (x ∷ xs) ys = let h = weight-insert_all t xs (insert m x ys) in let k = weight-insert t x ys in omega arith

  load-positive : (t : ℕ) (x : E) → m.time x < t → 1 ≤ load t x
  load-positive t x h = rw (lt-ltb (m.time x) t h) (one-le-pow (t - m.time x) (m.most + 1) (omega arith))

  -- events later than k weigh little
  load-later : (t k : ℕ) (x : E) → k < m.time x → load t x ≤ (m.most + 1) ^ (t - suc k)
  load-later t k x h =
      elim (cases_Bool (nat_lt (m.time x) t)) [
        | inl b ↦ rw b (pow-le-pow_right (omega arith) (omega arith))
        | inr b ↦ rw b (omega arith)
      ]

  module _ (law : IsLawful m) where
    weight-later : (t k : ℕ) (xs : List E) → ((x : E) → 0 < times m x xs → k < m.time x) → weight m t xs ≤ length xs * (m.most + 1) ^ (t - suc k)
    weight-later t k [] h = omega arith
    weight-later t k (x ∷ xs) h =
        let p = (m.most + 1) ^ (t - suc k) in
        let one_is = one_self m law x in
        let first = load-later t k x (h x (omega arith)) in
        let others = weight-later t k xs (λ y more. h y (omega arith)) in
        omega arith

    weight-sends : (t : ℕ) (s : S) (x : E) → m.time x < t → weight m t (m.sends s x) < load t x
    weight-sends t s x h =
        let p = (m.most + 1) ^ (t - suc (m.time x)) in
        let bound = weight-later t (m.time x) (m.sends s x) (λ y more. law.later s x y more) in
        let fewer = mul-le-mul_right p (law.few s x) in
        let whole = pow-suc (m.most + 1) (t - suc (m.time x)) in
        let one_more : suc (t - suc (m.time x)) ≡ t - m.time x = omega arith in
        let positive = one-le-pow (t - suc (m.time x)) (m.most + 1) (omega arith) in
        rw (lt-ltb (m.time x) t h) (rw (← one_more) (omega arith))

    -- a turn that takes an event leaves less to do
    pub weight-turn : (t : ℕ) (log : List E) (x : E) (rest : List E) → m.time x < t → weight m t (turn m t log (x ∷ rest)).rest < weight m t (x ∷ rest)
    weight-turn t log x rest h =
        let s = state m (m.dst x) (only m (m.dst x) log) in
        let all = weight-insert_all t (m.sends s x) rest in
        let fewer = rw (lt-ltb (m.time x) t h) at (weight-sends t s x h) in
        rw (lt-ltb (m.time x) t h) (omega arith)

  -- one turn
  pub turn_soon : (t : ℕ) (log : List E) (x : E) (rest : List E) → m.time x < t
      → turn m t log (x ∷ rest) ≡ record { log = x ∷ log; rest = insert_all m (m.sends (state m (m.dst x) (only m (m.dst x) log)) x) rest }
  turn_soon t log x rest h = rw (lt-ltb (m.time x) t h)

  turn_late : (t : ℕ) (log rest : List E) → IsOver m t rest → turn m t log rest ≡ record { log = log; rest = rest }
  turn_late t log [] h = refl
  turn_late t log (x ∷ rest) h = rw (le-ltb (m.time x) t h)

  pub turn_over : (t : ℕ) (w : World E) → IsOver m t w.rest → turn m t w.log w.rest ≡ w
  turn_over t w h = turn_late t w.log w.rest h

  pub turns_over : (n t : ℕ) (w : World E) → IsOver m t w.rest → turns m n t w ≡ w
  turns_over zero t w h = refl
  turns_over (suc n) t w h = rw (turn_over t w h) (turns_over n t w h)

  -- a world is over, or its least event is before t
  pub data Ends (t : ℕ) : World E → Type 0 where
    over : {w : World E} → IsOver m t w.rest → Ends t w
    soon : {log : List E} {x : E} {rest : List E} → m.time x < t → Ends t (record { log = log; rest = x ∷ rest })

  ends_at : (t : ℕ) (log rest : List E) → Ends t (record { log = log; rest = rest })
  ends_at t log [] = over tt
  ends_at t log (x ∷ rest) =
      elim (cases_Bool (nat_lt (m.time x) t)) [
        | inl b ↦ soon (ltb-true (m.time x) t b)
        | inr b ↦ over (ltb-false (m.time x) t b)
      ]

  pub ends : (t : ℕ) (w : World E) → Ends t w
  ends t w = ends_at t w.log w.rest

  module _ (law : IsLawful m) where
    weight-over : (t : ℕ) (w : World E) → Ends t w → weight m t w.rest ≤ 0 → IsOver m t w.rest
    weight-over t w (over h) none = h
    weight-over t w (soon {log} {x} {rest} h) none = let p = load-positive t x h in absurd (omega arith)

    -- turns beyond those that are left change nothing
    turns_same_at : (n k t : ℕ) (w : World E) → Ends t w
        → ((v : World E) → weight m t v.rest ≤ n → weight m t v.rest ≤ k → turns m n t v ≡ turns m k t v)
        → weight m t w.rest ≤ suc n → weight m t w.rest ≤ suc k → turns m (suc n) t w ≡ turns m (suc k) t w
    turns_same_at n k t w (over h) more a b = turns_over (suc n) t w h ∙ sym (turns_over (suc k) t w h)
    turns_same_at n k t w (soon {log} {x} {rest} h) more a b =
        let fewer = weight-turn law t log x rest h in
        more (turn m t log (x ∷ rest)) (omega arith) (omega arith)

    turns_same : (n k t : ℕ) (w : World E) → weight m t w.rest ≤ n → weight m t w.rest ≤ k → turns m n t w ≡ turns m k t w
    turns_same zero k t w a b = sym (turns_over k t w (weight-over t w (ends t w) a))
    turns_same (suc n) zero t w a b = turns_over (suc n) t w (weight-over t w (ends t w) b)
    turns_same (suc n) (suc k) t w a b = turns_same_at n k t w (ends t w) (λ v. turns_same n k t v) a b

    -- as many turns as there can be finish the run
    pub turns_enough : (n t : ℕ) (w : World E) → weight m t w.rest ≤ n → turns m n t w ≡ finished m t w
    unfolding finished
    turns_enough n t w h = turns_same n (weight m t w.rest) t w h (omega arith)

    finished_turn_at : (t later : ℕ) (w : World E) → Ends t w → t ≤ later → finished m later (turn m t w.log w.rest) ≡ finished m later w
    finished_turn_at t later w (over h) le = rw (turn_over t w h)
    finished_turn_at t later w (soon {log} {x} {rest} h) le =
        let at_later : m.time x < later = omega arith in
        let fewer = weight-turn law later log x rest at_later in
        let all = weight m later (x ∷ rest) in
        let same = turn_soon t log x rest h ∙ sym (turn_soon later log x rest at_later) in
        rw same (sym (turns_enough all later (turn m later log (x ∷ rest)) (omega arith)) ∙ turns_enough (suc all) later (record { log = log; rest = x ∷ rest }) (omega arith))

    -- a turn of a run to an earlier time is one of a run to a later time
    pub finished_turn : (t later : ℕ) (w : World E) → t ≤ later → finished m later (turn m t w.log w.rest) ≡ finished m later w
    finished_turn t later w le = finished_turn_at t later w (ends t w) le

    pub finished_turns : (n t later : ℕ) (w : World E) → t ≤ later → finished m later (turns m n t w) ≡ finished m later w
    finished_turns zero t later w le = refl
    finished_turns (suc n) t later w le = finished_turns n t later (turn m t w.log w.rest) le ∙ finished_turn t later w le

    -- running to a time, then to a later one, is running to the later one
    pub finished_finished : (t later : ℕ) (w : World E) → t ≤ later → finished m later (finished m t w) ≡ finished m later w
    unfolding finished
    finished_finished t later w le = finished_turns (weight m t w.rest) t later w le

    -- where nothing is before t, the run is finished
    pub finished_over : (t : ℕ) (w : World E) → IsOver m t w.rest → finished m t w ≡ w
    unfolding finished
    finished_over t w h = turns_over (weight m t w.rest) t w h

    over_after : (n t : ℕ) (w : World E) → weight m t w.rest ≤ n → Ends t w → IsOver m t (turns m n t w).rest
    over_after zero t w le e = weight-over t w e le
    over_after (suc n) t w le (over h) = subst (λ v. IsOver m t v.rest) (sym (turns_over (suc n) t w h)) h
    over_after (suc n) t w le (soon {log} {x} {rest} h) =
        let fewer = weight-turn law t log x rest h in
        over_after n t (turn m t log (x ∷ rest)) (omega arith) (ends t (turn m t log (x ∷ rest)))

    -- at its end nothing is before t
    pub over_finished : (t : ℕ) (w : World E) → IsOver m t (finished m t w).rest
    unfolding finished
    over_finished t w = over_after (weight m t w.rest) t w (omega arith) (ends t w)

  -- every prefix of a run is one of each run to a later time
  turns_later_at : (t later : ℕ) (w : World E) → t ≤ later → Ends t w → (k : ℕ) × (turns m k later w ≡ turn m t w.log w.rest)
  turns_later_at t later w le (over h) = (0, sym (turn_over t w h))
  turns_later_at t later w le (soon {log} {x} {rest} h) =
      let at_later : m.time x < later = omega arith in
      (1, turn_soon later log x rest at_later ∙ sym (turn_soon t log x rest h))

  pub turns-add : (n k t : ℕ) (w : World E) → turns m k t (turns m n t w) ≡ turns m (n + k) t w
  turns-add zero k t w = rw zero-add
  turns-add (suc n) k t w = rw suc-add (turns-add n k t (turn m t w.log w.rest))

  pub turns_later : (n t later : ℕ) (w : World E) → t ≤ later → (k : ℕ) × (turns m k later w ≡ turns m n t w)
  turns_later zero t later w le = (0, refl)
  turns_later (suc n) t later w le =
      let first = turns_later_at t later w le (ends t w) in
      let others = turns_later n t later (turn m t w.log w.rest) le in
      (first.0 + others.0, sym (turns-add first.0 others.0 later w) ∙ (ap (λ v. turns m others.0 later v) first.1 ∙ others.1))
