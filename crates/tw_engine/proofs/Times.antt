-- The least time of events in order.
use Rattle.std.proofs.Common.{◌≡◌, ℕ, ◌<◌, ◌≤◌, false, List, [], ◌∷◌, min, slice_get, Some, None, refl, ap, sym, ◌∙◌, inl, inr, arith}
use Rattle.std.proofs.lemmas.Bool.{cases_Bool}
use Rattle.tw_core.specs.Steps.{least_time}
use Rattle.tw_sim.proofs.Counts.{in_head}
use Rattle.tw_sim.proofs.Rising.{IsRising}
use Rattle.tw_sim.specs.Simulation.{Simulation, IsLawful, times}

module _ {S E : Type 0} (m : Simulation S E) (law : IsLawful m) where
  -- what is not before an event is no earlier
  no_earlier : (x y : E) → m.before y x ≡ false → m.time x ≤ m.time y
  no_earlier x y h =
      elim (cases_Bool (m.before x y)) [
        | inl b ↦ law.timely x y b
        | inr b ↦ (let same = ap m.time (law.total x y b h) in omega arith)
      ]

  -- the least time of events that are no earlier than a time
  none_sooner : (b t : ℕ) (xs : List E) → ((y : E) → 0 < times m y xs → b ≤ m.time y) → min b (least_time m xs t) ≡ min b t
  none_sooner b t [] late = refl
  none_sooner b t (x ∷ xs) late =
      let here = late x (in_head m law x xs) in
      let rest = none_sooner b t xs (λ y there. late y (omega arith)) in
      omega arith

  -- of events in order the first is the earliest
  pub least_first : (t : ℕ) (xs : List E) (x : E) → IsRising m xs → Some x ≡ slice_get xs 0 → min (m.time x) t ≡ least_time m xs t
  least_first t [] x r is = absurd (cc)
  least_first t (y ∷ ys) x r is =
      let same : x ≡ y = cc in
      ap (λ z. min (m.time z) t) same ∙ sym (none_sooner (m.time y) t ys (λ z there. no_earlier y z (r.0 z there)))

  pub least_none : (t : ℕ) (xs : List E) → None ≡ slice_get xs 0 → t ≡ least_time m xs t
  least_none t [] is = refl
  least_none t (y ∷ ys) is = absurd (cc)
