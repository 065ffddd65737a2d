-- What passes a test comes out, the first one first, and the others stay.
use Rattle.std.proofs.Common.{◌≡◌, ◌≤◌, ◌+◌, ◌∷◌, [], Bool, true, false, not, Some, None, List, drop, filter, length, slice_get}
use Rattle.std.proofs.Common.{refl, ap, sym, ◌∙◌, inl, inr, arith}
use Rattle.std.specs.List.{AllByRecursion}
use Rattle.std.proofs.lemmas.Bool.{cases_Bool, false≢true}
use Rattle.std.proofs.lemmas.Option.{none-some}
use Rattle.tw_event.specs.declared.event.Event.{Event}
use Rattle.tw_event.specs.Order.{event_before, event_same}
use Rattle.tw_sim.specs.Ordered.{insert, insert_all, take_out}
use Rattle.tw_ordered.proofs.Events.{event_law, filter_no, filter_yes, same_some}

pub no_first_nothing : {X : Type 0} (xs : List X) → slice_get xs 0 ≡ None → xs ≡ []
no_first_nothing [] h = refl
no_first_nothing (y ∷ ys) h = absurd (none-some y (sym h))

pub no_length : {X : Type 0} (xs : List X) → length xs ≡ 0 → xs ≡ []
no_length [] h = refl
no_length (y ∷ ys) h = absurd (omega arith)

module _ (p : Event → Bool) where
  first_passes : (e : Event) (xs : List Event) → slice_get (filter p xs) 0 ≡ Some e → p e ≡ true
  first_passes e [] h = absurd (none-some e h)
  first_passes e (x ∷ xs) h =
      elim (cases_Bool (p x)) [
        | inl b ↦ grind arith
        | inr b ↦ first_passes e xs (ap (λ ys. slice_get ys 0) (sym (filter_no p x xs b)) ∙ h)
      ]

  -- what holds of all holds of the first that passes
  pub all_first : (P : Event → Type 0) (e : Event) (xs : List Event) → AllByRecursion P xs → slice_get (filter p xs) 0 ≡ Some e → P e
  all_first P e [] a h = absurd (none-some e h)
  all_first P e (x ∷ xs) a h =
      elim (cases_Bool (p x)) [
        | inl b ↦ grind arith
        | inr b ↦ all_first P e xs a.1 (ap (λ ys. slice_get ys 0) (sym (filter_no p x xs b)) ∙ h)
      ]

  -- an element that does not pass is another one than the first that does
  differs : (e x : Event) → p e ≡ true → p x ≡ false → event_same e x ≡ false
  differs e x h k =
      elim (cases_Bool (event_same e x)) [
        | inl b ↦ absurd (false≢true (sym k ∙ ap p (sym (event_law.same_is e x b)) ∙ h))
        | inr b ↦ b
      ]

  head_out : (x : Event) (xs : List Event) → take_out event_same x (x ∷ xs) ≡ xs
  head_out x xs = rw (event_law.same_self x) refl

  tail_out : (e x : Event) (xs : List Event) → event_same e x ≡ false → take_out event_same e (x ∷ xs) ≡ x ∷ take_out event_same e xs
  tail_out e x xs h = rw h refl

  -- the first that passes comes out of those that pass
  pub first_out : (e : Event) (xs : List Event) → slice_get (filter p xs) 0 ≡ Some e → filter p (take_out event_same e xs) ≡ drop 1 (filter p xs)
  first_out e [] h = absurd (none-some e h)
  first_out e (x ∷ xs) h =
      elim (cases_Bool (p x)) [
        | inl b ↦ grind (arith, slice_get, filter_yes, filter, same_some, head_out)
        | inr b ↦
            let k : slice_get (filter p xs) 0 ≡ Some e = ap (λ ys. slice_get ys 0) (sym (filter_no p x xs b)) ∙ h in
            ap (filter p) (tail_out e x xs (differs e x (first_passes e xs k) b)) ∙ filter_no p x (take_out event_same e xs) b ∙ first_out e xs k
            ∙ ap (drop 1) (sym (filter_no p x xs b))
      ]

  -- and the others stay
  pub others_stay : (e : Event) (xs : List Event) → slice_get (filter p xs) 0 ≡ Some e
      → filter (λ x. not (p x)) (take_out event_same e xs) ≡ filter (λ x. not (p x)) xs
  others_stay e [] h = absurd (none-some e h)
  others_stay e (x ∷ xs) h =
      let q : Event → Bool = λ x. not (p x) in
      elim (cases_Bool (p x)) [
        | inl b ↦ grind (arith, slice_get, filter_yes, filter, same_some, head_out, filter_no, not)
        | inr b ↦
            let k : slice_get (filter p xs) 0 ≡ Some e = ap (λ ys. slice_get ys 0) (sym (filter_no p x xs b)) ∙ h in
            ap (filter q) (tail_out e x xs (differs e x (first_passes e xs k) b)) ∙ filter_yes q x (take_out event_same e xs) (ap not b) ∙ ap (λ ys. x ∷ ys) (others_stay e xs k)
            ∙ sym (filter_yes q x xs (ap not b))
      ]

  -- where none passes, the others are all
  pub none_passes : (xs : List Event) → filter p xs ≡ [] → filter (λ x. not (p x)) xs ≡ xs
  none_passes [] h = refl
  none_passes (x ∷ xs) h =
      let q : Event → Bool = λ x. not (p x) in
      elim (cases_Bool (p x)) [
        | inl b ↦ grind arith
        | inr b ↦
            filter_yes q x xs (ap not b) ∙ ap (λ ys. x ∷ ys) (none_passes xs (sym (filter_no p x xs b) ∙ h))
      ]

  -- how many pass
  length-filter-insert : (e : Event) (xs : List Event) → length (filter p (insert event_before e xs)) ≡ length (filter p (e ∷ xs))
  length-filter-insert e [] = refl
  length-filter-insert e (x ∷ xs) =
      let k = length-filter-insert e xs in
      elim (cases_Bool (event_before x e)) [
        | inl b ↦ grind arith
        | inr b ↦ rw b refl
      ]

  pub length-filter-insert_all : (xs ys : List Event) → length (filter p (insert_all event_before xs ys)) ≡ length (filter p xs) + length (filter p ys)
  length-filter-insert_all [] ys = omega arith
  length-filter-insert_all (x ∷ xs) ys = grind (arith, length-filter-insert, cases_Bool, filter, length-filter-insert_all xs (insert event_before x ys))

  pub length-filter-le : (xs : List Event) → length (filter p xs) ≤ length xs
  length-filter-le [] = omega arith
  length-filter-le (x ∷ xs) = grind (arith, cases_Bool, length-filter-le xs)
