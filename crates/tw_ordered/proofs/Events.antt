-- Events in order.
use Rattle.std.proofs.Common.{IfSome, ◌==◌, nat_lt, ◌≤◌, Bool, true, None, ◌+◌, cond, filter, ◌≡◌, ℕ, ◌<◌, false}
use Rattle.std.proofs.Common.{Some, List, [], ◌∷◌, slice_get, get_or, refl, ap, sym, ◌∙◌, subst, inl, inr, arith}
use Rattle.std.specs.List.Sorted.{IsPermutation, IsSorted}
use Rattle.std.specs.Ordering.{is_lt, nat_cmp, ordering_then}
use Rattle.std.specs.declared.cmp.Ordering.{Ordering}
use Rattle.std.specs.declared.cmp.Ordering.TheVariants.{Less, Equal, Greater}
use Rattle.std.proofs.lemmas.Cmp.{ranked}
use Rattle.std.proofs.lemmas.Option.{none-some}
use Rattle.std.proofs.lemmas.Bool.{cases_Bool, false≢true, eqb-true, le-ltb, lt-ltb}
use Rattle.tw_event.specs.declared.event.Event.{Event}
use Rattle.tw_event.specs.Order.{event_before, event_same}
use Rattle.tw_event.specs.contracts.event.EventOrd.TheImpl as event_ord
use Rattle.tw_event.proofs.Order.{before_not_self, before_trans, before_total, same_is, same_self, event_order}
use Rattle.tw_sim.specs.Ordered.{insert, insert_all, take_out, times}
use Rattle.tw_ordered.specs.InOrder.{earlier, in_order, least_with}
use Rattle.tw_sim.specs.Rising.{IsRising}
use Rattle.tw_sim.proofs.Ordered.{IsOrder, all_counted, in_cons, not_before, one_self, one_cases}
use Rattle.tw_ordered.proofs.Ordered.{insert_least, insert-take_out, times-take_out, ahead, all-filter, behind, times-in_order, insert_all_in_order, rising-in_order, in_order-permutation, in_order_sorted}
use Rattle.std.proofs.Common.{Some, List, [], ◌∷◌}
use Rattle.std.proofs.Common.{get_or, slice_get, refl, ap, sym, ◌∙◌, subst, inl, inr, arith}

pub event_law : IsOrder event_before event_same
event_law = record {
  not_self = before_not_self;
  trans = before_trans;
  total = before_total;
  same_is = same_is;
  same_self = same_self;
}

-- a list, sorted
pub sorted_list : (xs ys : List Event) → IsPermutation xs ys → IsSorted event_ord.ghosts.cmp ys → ys ≡ in_order event_before xs
sorted_list xs ys p h =
    sym (in_order_sorted event_before event_same ys (λ k d l m. sym (ap is_lt (event_order (get_or ys (k + 1) d) (get_or ys k d))) ∙ h k d l m))
    ∙ in_order-permutation event_before event_same event_law xs ys p

-- the events that pass a test, in order
module _ (p : Event → Bool) where
  pub filter_yes : (x : Event) (xs : List Event) → p x ≡ true → filter p (x ∷ xs) ≡ x ∷ filter p xs
  filter_yes x xs h = rw h refl

  pub filter_no : (x : Event) (xs : List Event) → p x ≡ false → filter p (x ∷ xs) ≡ filter p xs
  filter_no x xs h = rw h refl

  pub filter-insert_yes : (e : Event) (xs : List Event) → p e ≡ true → IsRising event_before event_same xs → filter p (insert event_before e xs) ≡ insert event_before e (filter p xs)
  filter-insert_yes e [] k h = filter_yes e [] k
  filter-insert_yes e (x ∷ xs) k h =
      elim (cases_Bool (event_before x e)) [
        | inl b ↦ grind (arith, filter, behind, event_law, cases_Bool, filter_yes, filter_no, filter-insert_yes e xs k h.1)
        | inr b ↦
            ap (filter p) (ahead event_before event_same event_law x e xs b) ∙ filter_yes e (x ∷ xs) k
            ∙ sym (insert_least event_before event_same e (filter p (x ∷ xs))
            (all-filter event_before event_same (λ y. event_before y e ≡ false) p (x ∷ xs)
            (b, all_counted event_before event_same event_law (λ y. event_before y e ≡ false) xs (λ y there. not_before event_before event_same event_law y x e (h.0 y there) b))))
      ]

  pub filter-insert_no : (e : Event) (xs : List Event) → p e ≡ false → filter p (insert event_before e xs) ≡ filter p xs
  filter-insert_no e [] k = filter_no e [] k
  filter-insert_no e (x ∷ xs) k =
      elim (cases_Bool (event_before x e)) [
        | inl b ↦
            ap (filter p) (behind event_before event_same event_law x e xs b) ∙ ap (λ r. cond (p x) (x ∷ r) r) (filter-insert_no e xs k)
        | inr b ↦
            ap (filter p) (ahead event_before event_same event_law x e xs b) ∙ filter_no e (x ∷ xs) k
      ]

  pub filter-in_order : (xs : List Event) → filter p (in_order event_before xs) ≡ in_order event_before (filter p xs)
  unfolding in_order
  filter-in_order [] = refl
  filter-in_order (x ∷ xs) = grind (arith, cases_Bool, filter-insert_yes, rising-in_order, event_law, filter_yes, filter-insert_no, filter_no, filter-in_order xs)

pub first-insert : (e : Event) (xs : List Event) → slice_get (insert event_before e xs) 0 ≡ Some (earlier e (slice_get xs 0))
first-insert e [] = refl
first-insert e (x ∷ xs) =
    elim (cases_Bool (event_before x e)) [ inl b ↦ rw b refl | inr b ↦ rw b refl ]

pub first-insert_all : (xs ys : List Event) → least_with (slice_get ys 0) xs ≡ slice_get (insert_all event_before xs ys) 0
first-insert_all [] ys = refl
first-insert_all (x ∷ xs) ys =
    ap (λ o. least_with o xs) (sym (first-insert x ys)) ∙ first-insert_all xs (insert event_before x ys)

pub least_first : (xs : List Event) → least_with None xs ≡ slice_get (in_order event_before xs) 0
least_first xs =
    first-insert_all xs [] ∙ ap (λ r. slice_get r 0) (insert_all_in_order event_before event_same event_law xs)

-- the first of one router's events is for it
pub home_of_first : (r : ℕ) (xs : List Event) → IfSome (slice_get (filter (λ e. e.dst == r) xs) 0) (λ e. e.dst ≡ r)
home_of_first r [] = tt
home_of_first r (x ∷ xs) = grind (arith, cases_Bool, eqb-true, home_of_first r xs)

pub same_some : {X : Type 0} (a b : X) → Some a ≡ Some b → a ≡ b
same_some a b h = cc

-- the first in order is the least
pub record IsLeast (e : Event) (xs : List Event) : Type 0 where
  pub there : 0 < times event_same e xs
  pub first : (x : Event) → 0 < times event_same x xs → event_before x e ≡ false

pub first_of_least : (e : Event) (xs : List Event) → IsLeast e xs → slice_get (in_order event_before xs) 0 ≡ Some e
first_of_least e xs h =
    let rest = in_order event_before (take_out event_same e xs) in
    let behind_it : (x : Event) → 0 < times event_same x rest → event_before x e ≡ false =
    λ x l.
    let a = times-in_order event_before event_same event_law x (take_out event_same e xs) in
    let b = times-take_out event_before event_same event_law x e xs h.there in
    h.first x (omega arith) in
    let all = all_counted event_before event_same event_law (λ x. event_before x e ≡ false) rest behind_it in
    ap (λ r. slice_get r 0) (sym (insert-take_out event_before event_same event_law e xs h.there) ∙ insert_least event_before event_same e rest all)

pub first_is_least : (e : Event) (xs ys : List Event) → IsRising event_before event_same ys → ((x : Event) → times event_same x ys ≡ times event_same x xs) → slice_get ys 0 ≡ Some e → IsLeast e xs
first_is_least e xs [] r h k = absurd (none-some e k)
first_is_least e xs (y ∷ ys) r h k =
    let y_is : y ≡ e = same_some y e k in
    subst (λ z. IsLeast z xs) y_is (record {
      there = grind (arith, one_self, event_law);
      first = λ x l.
          elim (in_cons event_before event_same event_law x y ys (subst (λ n. 0 < n) (sym (h x)) l)) [
            | inl q ↦ subst (λ z. event_before z y ≡ false) (sym q) (before_not_self y)
            | inr q ↦ r.0 x q
          ];
    })

pub least_is : (e : Event) (xs : List Event) → slice_get (in_order event_before xs) 0 ≡ Some e → IsLeast e xs
least_is e xs h =
    first_is_least e xs (in_order event_before xs) (rising-in_order event_before event_same event_law xs) (λ x. times-in_order event_before event_same event_law x xs) h

-- no event is the first of none
pub no_first : (xs : List Event) → slice_get xs 0 ≡ None → (e : Event) → times event_same e xs ≡ 0
no_first [] h e = refl
no_first (x ∷ xs) h e = absurd (none-some x (sym h))

pub none_first : (xs : List Event) → slice_get (in_order event_before xs) 0 ≡ None → (e : Event) → times event_same e xs ≡ 0
none_first xs h e =
    sym (times-in_order event_before event_same event_law e xs) ∙ no_first (in_order event_before xs) h e

-- an event that is not before another is not earlier
not_sooner : (m n : ℕ) (o : Ordering) → o ≡ nat_cmp m n → (q : Ordering) → is_lt (ordering_then o q) ≡ false → n ≤ m
not_sooner m n Less e q h = absurd (false≢true (sym h))
not_sooner m n Equal e q h = omega (arith, ranked m n Equal e)
not_sooner m n Greater e q h = omega (arith, ranked m n Greater e)

pub not_earlier : (d e : Event) → event_before d e ≡ false → e.time ≤ d.time
not_earlier d e h = not_sooner d.time e.time (nat_cmp d.time e.time) refl _ h

-- of two events at different times the earlier one comes first
by_time : (m n : ℕ) (o : Ordering) → o ≡ nat_cmp m n → (m ≡ n → ⊥) → (q : Ordering) → is_lt (ordering_then o q) ≡ nat_lt m n
by_time m n Less e k q = sym (lt-ltb m n (omega (arith, ranked m n Less e)))
by_time m n Equal e k q = absurd (k (omega (arith, ranked m n Equal e)))
by_time m n Greater e k q = sym (le-ltb m n (omega (arith, ranked m n Greater e)))

pub before_by_time : (d e : Event) → (d.time ≡ e.time → ⊥) → event_before d e ≡ nat_lt d.time e.time
before_by_time d e k = by_time d.time e.time (nat_cmp d.time e.time) refl k _

later_then : (m n : ℕ) (o : Ordering) → o ≡ nat_cmp m n → n ≤ m → (q : Ordering) → (m ≡ n → is_lt q ≡ false) → is_lt (ordering_then o q) ≡ false
later_then m n Less e h q k = absurd (omega (arith, ranked m n Less e))
later_then m n Equal e h q k = k (omega (arith, ranked m n Equal e))
later_then m n Greater e h q k = refl

-- an event that is later, or at the same time for a later router
pub not_before_first : (x y : Event) → x.time ≤ y.time → (y.time ≡ x.time → x.dst < y.dst) → event_before y x ≡ false
not_before_first x y h k =
    later_then y.time x.time (nat_cmp y.time x.time) refl h _ (λ e.
    let l = k e in
    later_then y.dst x.dst (nat_cmp y.dst x.dst) refl (omega arith) _ (λ f. absurd (omega arith)))

-- where no event is, the list is empty
pub nothing : (xs : List Event) → ((e : Event) → times event_same e xs ≡ 0) → xs ≡ []
nothing [] h = refl
nothing (x ∷ xs) h =
    let a = h x in
    let b = one_self event_before event_same event_law x in
    absurd (omega arith)

-- a list that rises is in order
pub in_order_rising : (xs : List Event) → IsRising event_before event_same xs → in_order event_before xs ≡ xs
unfolding in_order
in_order_rising [] h = refl
in_order_rising (x ∷ xs) h =
    ap (insert event_before x) (in_order_rising xs h.1) ∙ insert_least event_before event_same x xs (all_counted event_before event_same event_law (λ y. event_before y x ≡ false) xs h.0)

module _ (p : Event → Bool) (e : Event) where
  pub times-filter_yes : (xs : List Event) → p e ≡ true → times event_same e (filter p xs) ≡ times event_same e xs
  times-filter_yes [] h = refl
  times-filter_yes (x ∷ xs) h =
      let k = times-filter_yes xs h in
      elim (cases_Bool (p x)) [
        | inl b ↦ rw b (omega arith)
        | inr b ↦
            rw b (elim (one_cases event_before event_same event_law e x) [
              | inl z ↦ omega arith
              | inr q ↦ absurd (false≢true (sym b ∙ subst (λ y. p y ≡ true) q h))
            ])
      ]

  pub times-filter_no : (xs : List Event) → p e ≡ false → times event_same e (filter p xs) ≡ 0
  times-filter_no [] h = refl
  times-filter_no (x ∷ xs) h =
      let k = times-filter_no xs h in
      elim (cases_Bool (p x)) [
        | inl b ↦
            rw b (elim (one_cases event_before event_same event_law e x) [
              | inl z ↦ omega arith
              | inr q ↦ absurd (false≢true (sym (subst (λ y. p y ≡ false) q h) ∙ b))
            ])
        | inr b ↦ rw b (omega arith)
      ]
