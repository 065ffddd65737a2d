-- Lists as multisets: what is put in order has the same elements, and what has the same elements is put in the same order.
use Rattle.std.proofs.Common.{◌≡◌, ℕ, suc, zero, ◌+◌, ◌<◌, Bool, true, false, ◌&&◌, List, [], ◌∷◌, drop, get_or, length, map, refl, ap, sym, ◌∙◌, subst, ◌⊎◌, inl, inr, arith, add-one}
use Rattle.std.proofs.lemmas.Bool.{cases_Bool}
use Rattle.std.proofs.lemmas.List.Sorted.{sum_by-IsPermutation}
use Rattle.std.specs.List.{fold, list_all}
use lib.Pointwise.{pointwise}
use Rattle.std.specs.List.Sorted.{IsPermutation, IsSorted, IsSortedBy}
use Rattle.std.specs.Ordering.{is_lt}
use Rattle.tw_event.specs.declared.event.Event.{Event}
use Rattle.tw_event.specs.Order.{event_before, event_same}
use Rattle.tw_event.specs.contracts.event.EventOrd.TheImpl as event_ord
use Rattle.tw_event.proofs.Order.{before_not_self, before_trans, before_total, same_is, same_self, event_order}
use Rattle.tw_shape.specs.Packed.{in_order}
use Rattle.tw_sim.specs.Ordered.{insert, insert_all, one, times}
use Rattle.tw_sim.specs.Rising.{IsRising}
use Rattle.tw_sim.proofs.Members.{In}
use Rattle.tw_sim.proofs.Ordered.{IsOrder, in_cons, not_before, one_self, rising-insert_all, times-insert_all}

module _ {E : Type 0} (before : E → E → Bool) where
  in_insert : (x e : E) (xs : List E) → In x (insert before e xs) → (x ≡ e) ⊎ In x xs
  in_insert x e [] (inl h) = inl h
  in_insert x e [] (inr h) = absurd h
  in_insert x e (y ∷ ys) h =
      elim (cases_Bool (before y e)) [
        | inl b ↦
            let k : In x (y ∷ insert before e ys) = rw b at h in
            elim k [
              | inl is ↦ inr (inl is)
              | inr there ↦ elim (in_insert x e ys there) [ inl is ↦ inl is | inr old ↦ inr (inr old) ]
            ]
        | inr b ↦
            let k : In x (e ∷ y ∷ ys) = rw b at h in
            k
      ]

  insert_in : (x e : E) (xs : List E) → (x ≡ e) ⊎ In x xs → In x (insert before e xs)
  insert_in x e [] h = h
  insert_in x e (y ∷ ys) h =
      elim (cases_Bool (before y e)) [
        | inl b ↦ rw b (elim h [
          | inl is ↦ inr (insert_in x e ys (inl is))
          | inr k ↦ elim k [ inl is ↦ inl is | inr old ↦ inr (insert_in x e ys (inr old)) ]
        ])
        | inr b ↦ rw b h
      ]

  -- what stands in a list that was put in order stood there before
  pub in_insert_all : (x : E) (es xs : List E) → In x (insert_all before es xs) → In x es ⊎ In x xs
  in_insert_all x [] xs h = inr h
  in_insert_all x (e ∷ es) xs h =
      elim (in_insert_all x es (insert before e xs) h) [
        | inl there ↦ inl (inr there)
        | inr k ↦ elim (in_insert x e xs k) [ inl is ↦ inl (inl is) | inr old ↦ inr old ]
      ]

  -- and what stood there stands in it
  pub insert_all_in : (x : E) (es xs : List E) → In x es ⊎ In x xs → In x (insert_all before es xs)
  insert_all_in x [] xs (inl h) = absurd h
  insert_all_in x [] xs (inr h) = h
  insert_all_in x (e ∷ es) xs (inl (inl is)) = insert_all_in x es (insert before e xs) (inr (insert_in x e xs (inl is)))
  insert_all_in x (e ∷ es) xs (inl (inr h)) = insert_all_in x es (insert before e xs) (inl h)
  insert_all_in x (e ∷ es) xs (inr h) = insert_all_in x es (insert before e xs) (inr (insert_in x e xs (inr h)))

  -- where two steps may change places, the order in which they are made does not count
  module _ {A : Type 0} (step : A → E → A) (swap : (a : A) (d e : E) → step (step a d) e ≡ step (step a e) d) where
    step_first : (a : A) (e : E) (xs : List E) → fold step (step a e) xs ≡ step (fold step a xs) e
    step_first a e [] = refl
    step_first a e (x ∷ xs) = ap (λ b. fold step b xs) (swap a e x) ∙ step_first (step a x) e xs

    fold-insert : (a : A) (e : E) (xs : List E) → fold step a (insert before e xs) ≡ fold step (step a e) xs
    fold-insert a e [] = refl
    fold-insert a e (x ∷ xs) =
        elim (cases_Bool (before x e)) [
          | inl b ↦ rw b (fold-insert (step a x) e xs ∙ ap (λ c. fold step c xs) (swap a x e))
          | inr b ↦ rw b refl
        ]

    pub fold-insert_all : (a : A) (es xs : List E) → fold step a (insert_all before es xs) ≡ fold step (fold step a es) xs
    fold-insert_all a [] xs = refl
    fold-insert_all a (e ∷ es) xs =
        fold-insert_all a es (insert before e xs) ∙ fold-insert (fold step a es) e xs ∙ ap (λ b. fold step b xs) (sym (step_first a e es))

  -- a test of all
  swap_and : (a b c : Bool) → (a && (b && c)) ≡ (b && (a && c))
  swap_and true b c = refl
  swap_and false true c = refl
  swap_and false false c = refl

  all_in-insert : (p : E → Bool) (e : E) (xs : List E) → list_all p (insert before e xs) ≡ (p e && list_all p xs)
  all_in-insert p e [] = refl
  all_in-insert p e (x ∷ xs) =
      elim (cases_Bool (before x e)) [
        | inl b ↦ rw b (ap (λ c. p x && c) (all_in-insert p e xs) ∙ swap_and (p x) (p e) (list_all p xs))
        | inr b ↦ rw b refl
      ]

  pub all_in-insert_all : (p : E → Bool) (es xs : List E) → list_all p (insert_all before es xs) ≡ (list_all p es && list_all p xs)
  all_in-insert_all p [] xs = refl
  all_in-insert_all p (e ∷ es) xs =
      all_in-insert_all p es (insert before e xs) ∙ ap (λ c. list_all p es && c) (all_in-insert p e xs) ∙ swap_and (list_all p es) (p e) (list_all p xs)
      ∙ assoc (p e) (list_all p es) (list_all p xs) where
        assoc : (a b c : Bool) → (a && (b && c)) ≡ ((a && b) && c)
        assoc true b c = refl
        assoc false b c = refl

  module _ (same : E → E → Bool) (law : IsOrder before same) where
    in_head : (x : E) (xs : List E) → 0 < times same x (x ∷ xs)
    in_head x xs = let k = one_self before same law x in omega arith

    -- two lists in order in which each element stands as often are the same
    same_rising : (xs ys : List E) → IsRising before same xs → IsRising before same ys → ((e : E) → times same e xs ≡ times same e ys) → xs ≡ ys
    same_rising [] [] r q h = refl
    same_rising [] (y ∷ ys) r q h = absurd (let k = h y in let there = in_head y ys in omega arith)
    same_rising (x ∷ xs) [] r q h = absurd (let k = h x in let there = in_head x xs in omega arith)
    same_rising (x ∷ xs) (y ∷ ys) r q h =
        let x_there = in_head x xs in
        let y_there = in_head y ys in
        let x_count = h x in
        let y_count = h y in
        let heads : x ≡ y = elim (in_cons before same law x y ys (omega arith)) [
          | inl is ↦ is
          | inr k ↦ elim (in_cons before same law y x xs (omega arith)) [
            | inl is ↦ sym is
            | inr l ↦ law.total x y (q.0 x k) (r.0 y l)
          ]
        ] in
        let tails : xs ≡ ys = same_rising xs ys r.1 q.1 (λ e.
        let k = h e in
        let l : one same e x ≡ one same e y = ap (one same e) heads in
        omega arith) in
        cc

    times_sum : (e : E) (a : ℕ) (xs : List E) → fold (λ n x. n + one same e x) a xs ≡ a + times same e xs
    times_sum e a [] = omega arith
    times_sum e a (x ∷ xs) = let h = times_sum e (a + one same e x) xs in omega arith

    times-permutation : (e : E) (xs ys : List E) → IsPermutation xs ys → times same e ys ≡ times same e xs
    times-permutation e xs ys p =
        let h = sum_by-IsPermutation (one same e) xs ys p in
        let a = times_sum e 0 xs in
        let b = times_sum e 0 ys in
        omega arith

    steps_rising : (xs : List E) → ((k : ℕ) (d : E) → suc k < length xs → before (get_or xs (suc k) d) (get_or xs k d) ≡ false) → IsRising before same xs
    steps_rising [] h = tt
    steps_rising (x ∷ []) h = ((λ e there. absurd (omega arith)), tt)
    steps_rising (x ∷ y ∷ xs) h =
        let rest = steps_rising (y ∷ xs) (λ k d l. h (suc k) d (omega arith)) in
        let next : before y x ≡ false = h 0 x (omega arith) in (
          (λ e there. elim (in_cons before same law e y xs there) [
            | inl is ↦ subst (λ z. before z x ≡ false) (sym is) next
            | inr k ↦ not_before before same law e y x (rest.0 e k) next
          ]),
          rest,
        )

    -- what sorting gives
    pub sorted_is : (xs ys : List E) → IsPermutation xs ys → IsSortedBy before ys → ys ≡ insert_all before xs []
    sorted_is xs ys p sorted =
        same_rising ys (insert_all before xs []) (steps_rising ys (λ k d l. rw add-one at (sorted k d (omega arith) (omega arith))))
        (rising-insert_all before same law xs [] tt) (λ e.
        let a = times-permutation e xs ys p in
        let b = times-insert_all before same e xs [] in
        omega arith)

    -- in order a list is the same as before
    pub again_in_order : (xs : List E) → insert_all before (insert_all before xs []) [] ≡ insert_all before xs []
    again_in_order xs =
        same_rising (insert_all before (insert_all before xs []) []) (insert_all before xs []) (rising-insert_all before same law (insert_all before xs []) [] tt)
        (rising-insert_all before same law xs [] tt) (λ e.
        let a = times-insert_all before same e (insert_all before xs []) [] in
        omega arith)

-- ---- events

pub event_law : IsOrder event_before event_same
event_law = record {
  not_self = before_not_self;
  trans = before_trans;
  total = before_total;
  same_is = same_is;
  same_self = same_self;
}

pub sorted_events : (xs ys : List Event) → IsPermutation xs ys → IsSorted event_ord.ghosts.cmp ys → ys ≡ in_order xs
sorted_events xs ys p h =
    sorted_is event_before event_same event_law xs ys p (λ k d l m. sym (ap is_lt (event_order (get_or ys (k + 1) d) (get_or ys k d))) ∙ h k d l m)

pub in_order_again : (xs : List Event) → in_order (in_order xs) ≡ in_order xs
in_order_again xs = again_in_order event_before event_same event_law xs

pub from_in_order : (x : Event) (xs : List Event) → In x (in_order xs) → In x xs
from_in_order x xs h = elim (in_insert_all event_before x xs [] h) [ inl k ↦ k | inr k ↦ absurd k ]

pub to_in_order : (x : Event) (xs : List Event) → In x xs → In x (in_order xs)
to_in_order x xs h = insert_all_in event_before x xs [] (inl h)

-- ---- events, one by one

module _ (f g : Event → Event) where
  pub alike_next : (xs ys : List Event) (i : ℕ) (d : Event) → i < length xs → i < length ys → event_same (f (get_or xs i d)) (g (get_or ys i d)) ≡ true
      → pointwise event_same (map f (drop (suc i) xs)) (map g (drop (suc i) ys)) ≡ pointwise event_same (map f (drop i xs)) (map g (drop i ys))
  alike_next [] ys i d l m h = absurd (omega arith)
  alike_next (x ∷ xs) [] i d l m h = absurd (omega arith)
  alike_next (x ∷ xs) (y ∷ ys) zero d l m h = ap (λ b. b && pointwise event_same (map f xs) (map g ys)) (sym h)
  alike_next (x ∷ xs) (y ∷ ys) (suc i) d l m h = alike_next xs ys i d (omega arith) (omega arith) h

  pub alike_not : (xs ys : List Event) (i : ℕ) (d : Event) → i < length xs → i < length ys → event_same (f (get_or xs i d)) (g (get_or ys i d)) ≡ false
      → false ≡ pointwise event_same (map f (drop i xs)) (map g (drop i ys))
  alike_not [] ys i d l m h = absurd (omega arith)
  alike_not (x ∷ xs) [] i d l m h = absurd (omega arith)
  alike_not (x ∷ xs) (y ∷ ys) zero d l m h = ap (λ b. b && pointwise event_same (map f xs) (map g ys)) (sym h)
  alike_not (x ∷ xs) (y ∷ ys) (suc i) d l m h = alike_not xs ys i d (omega arith) (omega arith) h
