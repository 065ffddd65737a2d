-- A run and the same run later: where two worlds differ by a map on events that keeps the order, they go on to differ by it alone.
use Rattle.std.proofs.Common.{◌≡◌, ℕ, suc, zero, ◌+◌, ◌<◌, ◌==◌, List, [], ◌∷◌, map, refl, ap, sym, ◌∙◌, subst, inl, inr, arith}
use Rattle.std.proofs.lemmas.Bool.{cases_Bool, eqb-true}
use Rattle.tw_sim.specs.Simulation.{Simulation, IsLawful, only, state}
use Rattle.tw_sim.specs.Seq.{World, begin, finished, insert, insert_all, seq, turn, turns, weight}
use Rattle.tw_sim.proofs.Seq.{Ends, IsOver, ends, finished_finished, over, soon, turn_over, turn_soon, turns_enough}

-- each element of a list passes
abbrev pub Each : {X : Type 0} → (X → Type 0) → List X → Type 0
Each P [] = Unit {0}
Each P (x ∷ xs) = P x × Each P xs

module _ {S E : Type 0} (m : Simulation S E) where
  module _ (Good : E → Type 0) where
    good-insert : (e : E) (xs : List E) → Good e → Each Good xs → Each Good (insert m e xs)
    good-insert e [] g all = (g, tt)
    good-insert e (x ∷ xs) g all =
        elim (cases_Bool (m.before x e)) [
          | inl b ↦ rw b (all.0, good-insert e xs g all.1)
          | inr b ↦ rw b (g, all)
        ]

    pub good-insert_all : (es xs : List E) → Each Good es → Each Good xs → Each Good (insert_all m es xs)
    good-insert_all [] xs g all = all
    good-insert_all (e ∷ es) xs g all = good-insert_all es (insert m e xs) g.1 (good-insert e xs g.0 all)

  -- shift moves events p ticks on, and the effects of good events at routers that are alike with them
  pub record IsShift (p : ℕ) (shift : E → E) (Like : ℕ → S → S → Type 0) (Good : E → Type 0) : Type 0 where
    pub time : (e : E) → m.time (shift e) ≡ m.time e + p
    pub dst : (e : E) → m.dst (shift e) ≡ m.dst e
    pub before : (d e : E) → m.before (shift d) (shift e) ≡ m.before d e
    pub after : (s u : S) (e : E) → Good e → Like (m.dst e) s u → Like (m.dst e) (m.after s e) (m.after u (shift e))
    pub sends : (s u : S) (e : E) → Good e → Like (m.dst e) s u → m.sends u (shift e) ≡ map shift (m.sends s e)
    pub good : (s : S) (e : E) → Good e → Each Good (m.sends s e)

  -- the routers of both worlds are alike, and what is pending in the second is what is pending in the first, moved on
  pub record AreShifted (shift : E → E) (Like : ℕ → S → S → Type 0) (Good : E → Type 0) (u v : World E) : Type 0 where
    pub states : (r : ℕ) → Like r (state m r (only m r u.log)) (state m r (only m r v.log))
    pub rest : v.rest ≡ map shift u.rest
    pub good : Each Good u.rest

  module _ (p : ℕ) (shift : E → E) (Like : ℕ → S → S → Type 0) (Good : E → Type 0) (is : IsShift p shift Like Good) where
    insert-shift : (e : E) (xs : List E) → insert m (shift e) (map shift xs) ≡ map shift (insert m e xs)
    insert-shift e [] = refl
    insert-shift e (x ∷ xs) =
        rw (is.before x e) (elim (cases_Bool (m.before x e)) [
          | inl b ↦ rw b (ap (λ l. shift x ∷ l) (insert-shift e xs))
          | inr b ↦ rw b refl
        ])

    insert_all-shift : (es xs : List E) → insert_all m (map shift es) (map shift xs) ≡ map shift (insert_all m es xs)
    insert_all-shift [] xs = refl
    insert_all-shift (e ∷ es) xs = ap (insert_all m (map shift es)) (insert-shift e xs) ∙ insert_all-shift es (insert m e xs)

    abbrev Shifted : World E → World E → Type 0
    Shifted u v = AreShifted shift Like Good u v

    over-shift : (t : ℕ) (xs : List E) → IsOver m t xs → IsOver m (t + p) (map shift xs)
    over-shift t [] h = tt
    over-shift t (x ∷ xs) h = let k = is.time x in omega arith

    -- the router of an event handles it, and every other one stays as it is
    states_after : (x : E) (log later : List E) → Good x → ((r : ℕ) → Like r (state m r (only m r log)) (state m r (only m r later)))
        → (r : ℕ) → Like r (state m r (only m r (x ∷ log))) (state m r (only m r (shift x ∷ later)))
    states_after x log later g all r =
        rw (is.dst x) (elim (cases_Bool (m.dst x == r)) [
          | inl b ↦ rw b (
              let here : m.dst x ≡ r = eqb-true (m.dst x) r b in
              subst (λ q. Like q (m.after (state m q (only m q log)) x) (m.after (state m q (only m q later)) (shift x))) here
              (is.after (state m (m.dst x) (only m (m.dst x) log)) (state m (m.dst x) (only m (m.dst x) later)) x g (all (m.dst x))))
          | inr b ↦ rw b (all r)
        ])

    shifted_turn : (t : ℕ) (u v : World E) → Ends m t u → Shifted u v → Shifted (turn m t u.log u.rest) (turn m (t + p) v.log v.rest)
    shifted_turn t u v (over h) w =
        let end : IsOver m (t + p) v.rest = subst (IsOver m (t + p)) (sym w.rest) (over-shift t u.rest h) in
        rw (turn_over m t u h, turn_over m (t + p) v end) w
    shifted_turn t u v (soon {log} {x} {rest} h) w =
        let before : m.time (shift x) < t + p = (let k = is.time x in omega arith) in
        let first : turn m (t + p) v.log v.rest ≡ turn m (t + p) v.log (shift x ∷ map shift rest) = ap (turn m (t + p) v.log) w.rest in
        let second = turn_soon m (t + p) v.log (shift x) (map shift rest) before in
        let sends : insert_all m (m.sends (state m (m.dst (shift x)) (only m (m.dst (shift x)) v.log)) (shift x)) (map shift rest)
        ≡ map shift (insert_all m (m.sends (state m (m.dst x) (only m (m.dst x) log)) x) rest)
        = rw (is.dst x) (ap (λ l. insert_all m l (map shift rest)) (is.sends (state m (m.dst x) (only m (m.dst x) log)) (state m (m.dst x) (only m (m.dst x) v.log)) x w.good.0 (w.states (m.dst x)))
        ∙ insert_all-shift (m.sends (state m (m.dst x) (only m (m.dst x) log)) x) rest) in
        subst (λ z. Shifted (turn m t log (x ∷ rest)) z) (sym (first ∙ second))
        (subst (λ z. Shifted z (record { log = shift x ∷ v.log; rest = insert_all m (m.sends (state m (m.dst (shift x)) (only m (m.dst (shift x)) v.log)) (shift x)) (map shift rest) }))
        (sym (turn_soon m t log x rest h)) (record {
          states = states_after x log v.log w.good.0 w.states;
          rest = sends;
          good = good-insert_all Good (m.sends (state m (m.dst x) (only m (m.dst x) log)) x) rest (is.good (state m (m.dst x) (only m (m.dst x) log)) x w.good.0) w.good.1;
        }))

    shifted_turns : (n t : ℕ) (u v : World E) → Shifted u v → Shifted (turns m n t u) (turns m n (t + p) v)
    shifted_turns zero t u v w = w
    shifted_turns (suc n) t u v w =
        shifted_turns n t (turn m t u.log u.rest) (turn m (t + p) v.log v.rest) (shifted_turn t u v (ends m t u) w)

    module _ (law : IsLawful m) where
      shifted_finished : (t : ℕ) (u v : World E) → Shifted u v → Shifted (finished m t u) (finished m (t + p) v)
      shifted_finished t u v w =
          let n = weight m t u.rest + weight m (t + p) v.rest in
          rw (← turns_enough m law n t u (omega arith), ← turns_enough m law n (t + p) v (omega arith)) (shifted_turns n t u v w)

      -- where the runs to a and to a later time differ by a shift, so do the runs to times k ticks on
      pub shifted_on : (a k : ℕ) → Shifted (seq m a) (seq m (a + p)) → Shifted (seq m (a + k)) (seq m (a + k + p))
      shifted_on a k w =
          let on = shifted_finished (a + k) (seq m a) (seq m (a + p)) w in
          rw (← finished_finished m law a (a + k) (begin m) (omega arith), ← finished_finished m law (a + p) (a + k + p) (begin m) (omega arith)) on
