-- The element of a list that comes first.
use Rattle.std.proofs.Common.{◌≡◌, ◌<◌, false, List, [], ◌∷◌, Option, Some, None, slice_get, refl, ap, sym, subst, inl, inr, arith}
use Rattle.std.proofs.lemmas.Bool.{cases_Bool}
use Rattle.tw_sim.specs.Ordered.{earlier, least}
use Rattle.tw_sim.specs.Simulation.{Simulation, IsLawful, times}
use Rattle.tw_sim.proofs.Counts.{in_cons, in_head}
use Rattle.tw_sim.proofs.Rising.{IsRising, not_back, not_before}

module _ {S E : Type 0} (m : Simulation S E) (law : IsLawful m) where
  -- the first one stands in the list, and no other comes before it
  pub record IsLeast (e : E) (xs : List E) : Type 0 where
    pub there : 0 < times m e xs
    pub first : (x : E) → 0 < times m x xs → m.before x e ≡ false

  least_of : (x : E) (o : Option E) (xs : List E) → least m.before xs ≡ o → ((e : E) → o ≡ Some e → IsLeast e xs) → IsLeast (earlier m.before x o) (x ∷ xs)
  least_of x None [] h more = record {
    there = in_head m law x [];
    first = λ y there. elim (in_cons m law y x [] there) [
      | inl is ↦ subst (λ z. m.before z x ≡ false) (sym is) (law.not_self x)
      | inr none ↦ absurd (omega arith)
    ];
  }
  least_of x None (z ∷ xs) h more = cc
  least_of x (Some d) xs h more =
      let old = more d refl in
      elim (cases_Bool (m.before d x)) [
        | inl b ↦ rw b (record {
          there = (let k = old.there in omega arith);
          first = λ y there. elim (in_cons m law y x xs there) [
            | inl is ↦ subst (λ z. m.before z d ≡ false) (sym is) (not_back m law d x b)
            | inr k ↦ old.first y k
          ];
        })
        | inr b ↦ rw b (record {
          there = in_head m law x xs;
          first = λ y there. elim (in_cons m law y x xs there) [
            | inl is ↦ subst (λ z. m.before z x ≡ false) (sym is) (law.not_self x)
            | inr k ↦ not_before m law y d x (old.first y k) b
          ];
        })
      ]

  pub least_is : (e : E) (xs : List E) → least m.before xs ≡ Some e → IsLeast e xs
  least_is e [] h = cc
  least_is e (x ∷ xs) h =
      let made : earlier m.before x (least m.before xs) ≡ e = cc in
      subst (λ y. IsLeast y (x ∷ xs)) made (least_of x (least m.before xs) xs refl (λ d k. least_is d xs k))

  -- in a list in order it is the head
  pub least_rising : (xs : List E) → IsRising m xs → least m.before xs ≡ slice_get xs 0
  least_rising [] r = refl
  least_rising (x ∷ xs) r = ap Some (at (least m.before xs) refl) where
    at : (o : Option E) → least m.before xs ≡ o → earlier m.before x o ≡ x
    at None h = refl
    at (Some d) h = rw (r.0 d (least_is d xs h).there) refl
