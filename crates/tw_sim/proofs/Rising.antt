-- The pending events of a run stay in order, and each suits the router that handles it.
use Rattle.std.proofs.Common.{◌≡◌, ℕ, suc, zero, ◌<◌, ◌==◌, Bool, true, false, List, [], ◌∷◌, filter, refl, ap, sym, subst, inl, inr, arith, nat_lt}
use Rattle.std.proofs.lemmas.Bool.{cases_Bool, eqb-true, ltb-true, ltb-false}
use Rattle.tw_sim.specs.Simulation.{Simulation, IsLawful, one, times, only, state}
use Rattle.tw_sim.specs.Seq.{World, begin, insert_all, turn, turns}
use Rattle.tw_sim.specs.Rising as plain
use Rattle.tw_sim.proofs.Counts.{in_cons, in_filter, in_head, is_order, times-insert_all}
use Rattle.tw_sim.proofs.Ordered as ordered
use Rattle.tw_sim.proofs.Seq.{Ends, over, soon, ends, turn_over, turn_soon}

module _ {S E : Type 0} (m : Simulation S E) where
  -- the first ones first
  abbrev pub IsRising : List E → Type 0
  IsRising xs = plain.IsRising m.before m.same xs

  -- each event of a run suits the router that handles it
  pub record AllSuit (w : World E) : Type 0 where
    pub handled : (e : E) → 0 < times m e w.log → m.suits e ≡ true
    pub pending : (e : E) → 0 < times m e w.rest → m.suits e ≡ true

  module _ (law : IsLawful m) where
    pub not_back : (x y : E) → m.before x y ≡ true → m.before y x ≡ false
    not_back = ordered.not_back m.before m.same (is_order m law)

    -- what is not before what is not before x is not before x
    pub not_before : (e y x : E) → m.before e y ≡ false → m.before y x ≡ false → m.before e x ≡ false
    not_before = ordered.not_before m.before m.same (is_order m law)

    -- two lists in order in which each event stands as often are the same
    pub same_rising : (xs ys : List E) → IsRising xs → IsRising ys → ((e : E) → times m e xs ≡ times m e ys) → xs ≡ ys
    same_rising [] [] r q h = refl
    same_rising [] (y ∷ ys) r q h = absurd (let k = h y in let there = in_head m law y ys in omega arith)
    same_rising (x ∷ xs) [] r q h = absurd (let k = h x in let there = in_head m law x xs in omega arith)
    same_rising (x ∷ xs) (y ∷ ys) r q h =
        let x_there = in_head m law x xs in
        let y_there = in_head m law y ys in
        let x_count = h x in
        let y_count = h y in
        let same : x ≡ y = elim (in_cons m law x y ys (omega arith)) [
          | inl is ↦ is
          | inr k ↦ elim (in_cons m law y x xs (omega arith)) [
            | inl is ↦ sym is
            | inr l ↦ law.total x y (q.0 x k) (r.0 y l)
          ]
        ] in
        let tails : xs ≡ ys = same_rising xs ys r.1 q.1 (λ e.
        let k = h e in
        let l : one m e x ≡ one m e y = ap (one m e) same in
        omega arith) in
        cc

    -- what passes a test in a list in order is in order
    pub rising-filter : (p : E → Bool) (xs : List E) → IsRising xs → IsRising (filter p xs)
    rising-filter p [] r = tt
    rising-filter p (x ∷ xs) r =
        elim (cases_Bool (p x)) [
          | inl b ↦ rw b ((λ e h. r.0 e (in_filter m law p e xs h).1), rising-filter p xs r.1)
          | inr b ↦ rw b (rising-filter p xs r.1)
        ]

    pub rising-insert_all : (es xs : List E) → IsRising xs → IsRising (insert_all m es xs)
    rising-insert_all = ordered.rising-insert_all m.before m.same (is_order m law)

    rising-turn : (t : ℕ) (w : World E) → Ends m t w → IsRising w.rest → IsRising (turn m t w.log w.rest).rest
    rising-turn t w (over h) r = subst (λ v. IsRising v.rest) (sym (turn_over m t w h)) r
    rising-turn t w (soon {log} {x} {rest} h) r =
        subst (λ v. IsRising v.rest) (sym (turn_soon m t log x rest h)) (rising-insert_all (m.sends (state m (m.dst x) (only m (m.dst x) log)) x) rest r.1)

    pub rising-turns : (n t : ℕ) (w : World E) → IsRising w.rest → IsRising (turns m n t w).rest
    rising-turns zero t w r = r
    rising-turns (suc n) t w r = rising-turns n t (turn m t w.log w.rest) (rising-turn t w (ends m t w) r)

    pub rising-begin : IsRising (begin m).rest
    rising-begin = rising-insert_all m.opening [] tt

    pub suit-begin : AllSuit (begin m)
    suit-begin = record {
      handled = λ e none. absurd (omega arith);
      pending = λ e there. law.suit_opening e (let k = times-insert_all m e m.opening [] in omega arith);
    }

    suit-turn : (t : ℕ) (w : World E) → Ends m t w → AllSuit w → AllSuit (turn m t w.log w.rest)
    suit-turn t w (over h) s = subst AllSuit (sym (turn_over m t w h)) s
    suit-turn t w (soon {log} {x} {rest} h) s =
        let x_suits = s.pending x (in_head m law x rest) in
        subst AllSuit (sym (turn_soon m t log x rest h)) (record {
          handled = λ e there. elim (in_cons m law e x log there) [
            | inl is ↦ subst (λ z. m.suits z ≡ true) (sym is) x_suits
            | inr old ↦ s.handled e old
          ];
          pending = λ e there.
              elim (cases_Bool (nat_lt 0 (times m e rest))) [
                | inl b ↦ s.pending e (let k = ltb-true 0 (times m e rest) b in omega arith)
                | inr b ↦
                    law.suit_sends x e (only m (m.dst x) log)
                    (λ y in_older. let k = in_filter m law (λ z. m.dst z == m.dst x) y log in_older in (eqb-true (m.dst y) (m.dst x) k.0, s.handled y k.1))
                    x_suits
                    (let k = ltb-false 0 (times m e rest) b in let l = times-insert_all m e (m.sends (state m (m.dst x) (only m (m.dst x) log)) x) rest in omega arith)
              ];
        })

    pub suit-turns : (n t : ℕ) (w : World E) → AllSuit w → AllSuit (turns m n t w)
    suit-turns zero t w s = s
    suit-turns (suc n) t w s = suit-turns n t (turn m t w.log w.rest) (suit-turn t w (ends m t w) s)
