-- The first of two lists in order, and of several.
use Rattle.std.proofs.Common.{◌≡◌, ◌<◌, ◌++◌, ℕ, true, false, Option, Some, None, List, [], ◌∷◌, length, slice_get, refl, ap, sym, ◌∙◌, inl, inr, arith}
use Rattle.std.proofs.lemmas.Bool.{cases_Bool}
use Rattle.tw_event.specs.declared.event.Event.{Event}
use Rattle.tw_event.specs.Order.{event_before, event_same}
use Rattle.tw_sim.specs.Ordered.{times}
use Rattle.tw_sim.proofs.Ordered.{not_back, not_before}
use Rattle.tw_ordered.specs.InOrder.{in_order, earlier_of}
use Rattle.tw_ordered.proofs.Ordered.{cases_zero, in_order-times}
use Rattle.tw_ordered.proofs.Events.{IsLeast, event_law, first_of_least, least_is, none_first, nothing}
use Rattle.tw_ordered.proofs.Lists.{times-append}
use Rattle.std.proofs.Common.{◌+◌, suc, zero}
use Rattle.std.proofs.Common.{take, get_or}
use Rattle.tw_ordered.specs.Buckets.{together}

-- the lesser of the two first events is the least of all
module _ (x y : Event) (ring heap : List Event) where
  pub least_left : IsLeast x ring → IsLeast y heap → event_before y x ≡ false → slice_get (in_order event_before (ring ++ heap)) 0 ≡ Some x
  least_left h k b =
      first_of_least x (ring ++ heap) (record {
        there = grind (arith, times-append);
        first = λ z there.
            let n = times-append z ring heap in
            elim (cases_zero (times event_same z ring)) [
              | inl q ↦ not_before event_before event_same event_law z y x (k.first z (omega arith)) b
              | inr l ↦ h.first z l
            ];
      })

  pub least_right : IsLeast x ring → IsLeast y heap → event_before y x ≡ true → slice_get (in_order event_before (ring ++ heap)) 0 ≡ Some y
  least_right h k b =
      first_of_least y (ring ++ heap) (record {
        there = grind (arith, times-append);
        first = λ z there.
            let n = times-append z ring heap in
            elim (cases_zero (times event_same z heap)) [
              | inl q ↦ not_before event_before event_same event_law z x y (h.first z (omega arith)) (not_back event_before event_same event_law y x b)
              | inr l ↦ k.first z l
            ];
      })

pub append_none : (xs : List Event) → xs ++ [] ≡ xs
append_none [] = refl
append_none (x ∷ xs) = ap (λ r. x ∷ r) (append_none xs)

-- the one of two first events that comes first is the first of all
module _ (xs ys : List Event) where
  right_first : (x y : Event) → slice_get (in_order event_before xs) 0 ≡ Some x → slice_get (in_order event_before ys) 0 ≡ Some y → event_before x y ≡ false
      → slice_get (in_order event_before (xs ++ ys)) 0 ≡ Some y
  right_first x y h k b =
      let l = least_is x xs h in
      let m = least_is y ys k in
      first_of_least y (xs ++ ys) (record {
        there = grind (arith, times-append);
        first = λ z there.
            let n = times-append z xs ys in
            elim (cases_zero (times event_same z ys)) [
              | inl q ↦ not_before event_before event_same event_law z x y (l.first z (omega arith)) b
              | inr o ↦ m.first z o
            ];
      })

  both : (a b : Option Event) → a ≡ slice_get (in_order event_before xs) 0 → b ≡ slice_get (in_order event_before ys) 0 → earlier_of a b ≡ slice_get (in_order event_before (xs ++ ys)) 0
  both a None h k =
      let z : ys ≡ [] = nothing ys (none_first ys (sym k)) in
      h ∙ ap (λ zs. slice_get (in_order event_before zs) 0) (sym (ap (λ zs. xs ++ zs) z ∙ append_none xs))
  both None (Some y) h k =
      let z : xs ≡ [] = nothing xs (none_first xs (sym h)) in
      k ∙ ap (λ zs. slice_get (in_order event_before (zs ++ ys)) 0) (sym z)
  both (Some x) (Some y) h k =
      elim (cases_Bool (event_before x y)) [
        | inl b ↦ rw b (sym (least_left x y xs ys (least_is x xs (sym h)) (least_is y ys (sym k)) (not_back event_before event_same event_law x y b)))
        | inr b ↦ rw b (sym (right_first x y (sym h) (sym k) b))
      ]

pub both_least : (xs ys : List Event) (a b : Option Event) → a ≡ slice_get (in_order event_before xs) 0 → b ≡ slice_get (in_order event_before ys) 0
    → earlier_of a b ≡ slice_get (in_order event_before (xs ++ ys)) 0
both_least xs ys a b h k = both xs ys a b h k

suc_more : (i : ℕ) → suc (i + 1) ≡ suc i + 1
suc_more i = omega arith

-- the levels up to the i-th and that one
pub times_upto : (i : ℕ) (xs : List Event) (lists : List (List Event)) → i < length lists → xs ≡ get_or lists i xs → (e : Event)
    → times event_same e (together (take (i + 1) lists)) ≡ times event_same e (together (take i lists)) + times event_same e xs
times_upto i xs [] h q e = absurd (omega arith)
times_upto zero xs (ys ∷ lists) h q e = grind (arith, times-append)
times_upto (suc i) xs (ys ∷ lists) h q e =
    let c = ap (λ n. times event_same e (together (take n (ys ∷ lists)))) (suc_more i) in
    let r = times_upto i xs lists (omega arith) q e in
    let a = times-append e ys (together (take (i + 1) lists)) in
    let b = times-append e ys (together (take i lists)) in
    omega arith

-- the least of the levels up to the i-th, of which that one is in order
pub least_upto : (i : ℕ) (xs : List Event) (lists : List (List Event)) → i < length lists → xs ≡ get_or lists i xs → (a b : Option Event)
    → a ≡ slice_get (in_order event_before (together (take i lists))) 0 → b ≡ slice_get (in_order event_before xs) 0 → earlier_of a b ≡ slice_get (in_order event_before (together (take (i + 1) lists))) 0
least_upto i xs lists l q a b h k =
    both_least (together (take i lists)) xs a b h k
    ∙ ap (λ zs. slice_get zs 0) (in_order-times event_before event_same event_law (together (take i lists) ++ xs) (together (take (i + 1) lists)) (λ e.
    let n = times-append e (together (take i lists)) xs in
    let m = times_upto i xs lists l q e in
    omega arith))
