-- Events in several lists, each in the list that its key names.
use Rattle.std.proofs.Common.{◌≡◌, ◌+◌, ◌<◌, ◌≤◌, ◌++◌, ℕ, suc, zero, List, [], ◌∷◌, drop, length, get_or, set, refl, ap, sym, ◌∙◌, inl, inr, arith, get_or-set_same, get_or-set_other}
use Rattle.std.proofs.lemmas.Bool.{cases_eq, cases_lt}
use Rattle.std.proofs.lemmas.List.{get_or_past}
use Rattle.tw_event.specs.declared.event.Event.{Event}
use Rattle.tw_event.specs.Order.{event_before, event_same}
use Rattle.tw_sim.specs.Ordered.{insert, one, take_out, times}
use Rattle.tw_sim.proofs.Counts.{none}
use Rattle.tw_sim.proofs.Ordered.{one_cases}
use Rattle.tw_ordered.specs.InOrder.{in_order}
use Rattle.tw_ordered.specs.Buckets.{IsPlaced, together}
use Rattle.tw_ordered.proofs.Ordered.{cases_zero, in_order-inserted, in_order-taken, take_out_none, times-in_order, times-take_out}
use Rattle.tw_ordered.proofs.Events.{event_law}

pub times-append : (e : Event) (xs ys : List Event) → times event_same e (xs ++ ys) ≡ times event_same e xs + times event_same e ys
times-append e [] ys = omega arith
times-append e (x ∷ xs) ys = grind (arith, times-append e xs ys)

pub times-push : (d e : Event) (xs : List Event) → times event_same d (xs ++ e ∷ []) ≡ one event_same d e + times event_same d xs
times-push d e xs = grind (arith, times-append)

-- one of the lists becomes another
pub times-set : (i : ℕ) (ys : List Event) (lists : List (List Event)) → i < length lists → (d : Event)
    → times event_same d (together (set lists i ys)) + times event_same d (get_or lists i []) ≡ times event_same d (together lists) + times event_same d ys
times-set i ys [] h d = absurd (omega arith)
times-set zero ys (xs ∷ lists) h d = grind (arith, times-append)
times-set (suc i) ys (xs ∷ lists) h d = grind (arith, times-append, set, times-set i ys lists (omega arith) d)

times-none : (e : Event) (lists : List (List Event)) → ((i : ℕ) → times event_same e (get_or lists i []) ≡ 0) → times event_same e (together lists) ≡ 0
times-none e [] h = refl
times-none e (xs ∷ lists) h =
    let a = times-append e xs (together lists) in
    let b = h 0 in
    let c = times-none e lists (λ i. h (suc i)) in
    omega arith

-- an event that no other list has
times-alone : (e : Event) (j : ℕ) (lists : List (List Event)) → ((i : ℕ) → (i ≡ j → ⊥) → times event_same e (get_or lists i []) ≡ 0)
    → times event_same e (together lists) ≡ times event_same e (get_or lists j [])
times-alone e j [] h = refl
times-alone e zero (xs ∷ lists) h =
    let a = times-append e xs (together lists) in
    let c = times-none e lists (λ i. h (suc i) (λ k. omega arith)) in
    omega arith
times-alone e (suc j) (xs ∷ lists) h =
    let a = times-append e xs (together lists) in
    let b = h 0 (λ k. omega arith) in
    let c = times-alone e j lists (λ i k. h (suc i) (λ l. k (omega arith))) in
    omega arith

module _ (key : Event → ℕ) where
  -- an event is looked for in the list that its key names
  pub times-placed : (lists : List (List Event)) → IsPlaced key lists → (e : Event) → times event_same e (together lists) ≡ times event_same e (get_or lists (key e) [])
  times-placed lists h e =
      times-alone e (key e) lists (λ i k. none (times event_same e (get_or lists i [])) (λ there. k (sym (h i e there))))

  pub placed-set : (lists : List (List Event)) (i : ℕ) (ys : List Event) → i < length lists → IsPlaced key lists → ((e : Event) → 0 < times event_same e ys → key e ≡ i) → IsPlaced key (set lists i ys)
  placed-set lists i ys l h k j e there = grind (arith, cases_eq, set, get_or-set_same, get_or-set_other)

-- lists that are all empty
pub together_none : (lists : List (List Event)) → ((i : ℕ) → i < length lists → get_or lists i [] ≡ []) → together lists ≡ []
together_none [] h = refl
together_none (xs ∷ lists) h =
    rw (h 0 (omega arith)) (together_none lists (λ i l. h (suc i) (omega arith)))

suc_more : (i : ℕ) → suc (i + 1) ≡ suc i + 1
suc_more i = omega arith

-- the lists from the i-th on
pub together_from : (i : ℕ) (xs : List Event) (lists : List (List Event)) → i < length lists → xs ≡ get_or lists i xs → together (drop i lists) ≡ xs ++ together (drop (i + 1) lists)
together_from i xs [] h e = absurd (omega arith)
together_from zero xs (ys ∷ lists) h e = ap (λ zs. zs ++ together lists) (sym e)
together_from (suc i) xs (ys ∷ lists) h e =
    together_from i xs lists (omega arith) e ∙ ap (λ n. xs ++ together (drop n (ys ∷ lists))) (suc_more i)

pub times-take_out-le : (d e : Event) (xs : List Event) → times event_same d (take_out event_same e xs) ≤ times event_same d xs
times-take_out-le d e xs =
    elim (cases_zero (times event_same e xs)) [
      | inl z ↦ grind (arith, take_out_none, event_law)
      | inr there ↦
          let h = times-take_out event_before event_same event_law d e xs there in
          omega arith
    ]

-- what happens to an event happens in the list that its key names
module _ (key : Event → ℕ) (lists : List (List Event)) (placed : IsPlaced key lists) (e : Event) (within : key e < length lists) (qs : List Event) where
  module _ (more : (d : Event) → times event_same d qs ≡ one event_same d e + times event_same d (get_or lists (key e) [])) where
    pub placed_inserted : IsPlaced key (set lists (key e) qs)
    placed_inserted =
        placed-set key lists (key e) qs within placed (λ d there.
        let h = more d in
        elim (one_cases event_before event_same event_law d e) [
          | inl z ↦ placed (key e) d (omega arith)
          | inr q ↦ ap key q
        ])

    pub lists_inserted : in_order event_before (together (set lists (key e) qs)) ≡ insert event_before e (in_order event_before (together lists))
    lists_inserted =
        in_order-inserted event_before event_same event_law (together lists) (together (set lists (key e) qs)) (get_or lists (key e) []) qs (times-set (key e) qs lists within) e more

  module _ (less : qs ≡ take_out event_same e (get_or lists (key e) [])) where
    pub placed_taken : IsPlaced key (set lists (key e) qs)
    placed_taken =
        placed-set key lists (key e) qs within placed (λ d there.
        let h = ap (times event_same d) less in
        let l = times-take_out-le d e (get_or lists (key e) []) in
        placed (key e) d (omega arith))

    pub lists_taken : in_order event_before (together (set lists (key e) qs)) ≡ take_out event_same e (in_order event_before (together lists))
    lists_taken =
        in_order-taken event_before event_same event_law (together lists) (together (set lists (key e) qs)) (get_or lists (key e) []) qs (times-set (key e) qs lists within) e
        (times-placed key lists placed e) less

-- how often an event is in the lists, in order
pub times-lists : (key : Event → ℕ) (lists : List (List Event)) → IsPlaced key lists → (e : Event)
    → times event_same e (in_order event_before (together lists)) ≡ times event_same e (get_or lists (key e) [])
times-lists key lists placed e =
    times-in_order event_before event_same event_law e (together lists) ∙ times-placed key lists placed e

module _ (lists : List (List Event)) (empty : (i : ℕ) → i < length lists → get_or lists i [] ≡ []) where
  pub none_placed : (key : Event → ℕ) → IsPlaced key lists
  none_placed key i e there = grind (arith, cases_lt, get_or_past)

  pub in_order_none : in_order event_before (together lists) ≡ []
  unfolding in_order
  in_order_none = rw (together_none lists empty) refl
