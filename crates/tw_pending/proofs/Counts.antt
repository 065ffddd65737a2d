-- Events in rising order: what stands there is known by how often each event stands.
use Rattle.std.proofs.Common.{◌≡◌, ℕ, zero, suc, ◌+◌, ◌<◌, false, List, [], ◌∷◌, add-one, drop, drop-cons, get_or, length, slice_get, None, Some, refl, ap, sym, ◌∙◌, subst, inl, inr, arith}
use Rattle.std.specs.Cmp.{IsTotalOrder}
use Rattle.std.specs.List.{AllByRecursion, sum_by}
use Rattle.std.specs.List.Sorted.{IsPermutation, IsSorted}
use Rattle.std.specs.Ordering.{is_lt}
use Rattle.std.specs.declared.cmp.Ordering.{Ordering}
use Rattle.std.specs.declared.cmp.Ordering.TheVariants.{Equal}
use Rattle.std.specs.declared.cmp.Reverse.{Reverse}
use Rattle.std.proofs.lemmas.List.{drop-drop}
use Rattle.std.proofs.lemmas.List.Sorted.{IsPermutation-map, sum_by-IsPermutation}
use Rattle.std.proofs.lemmas.List.Sums.{sum_by-cons}
use Rattle.tw_process.proofs.Lawful.{order_law}
use Rattle.tw_sim.specs.Ordered.{insert_all, one}
use Rattle.tw_sim.proofs.Ordered.{IsOrder, all-insert, in_cons, not_before, one_self, rising-insert_all, times-insert_all}
use Rattle.tw_pending.specs.Order.{AreWith, IsInOrder, count, in_order, is_before, is_same}
use Rattle.tw_pending.specs.Ring.{events_of}

-- the next of a list, and what is behind it
pub step : {E : Type 0} (xs : List E) (i : ℕ) (x : E) → i < length xs → x ≡ get_or xs i x → drop i xs ≡ x ∷ drop (i + 1) xs
step xs i x l is = drop-cons xs i x l ∙ (ap (λ y. y ∷ drop (suc i) xs) (sym is) ∙ ap (λ k. x ∷ drop k xs) (sym (add-one i)))

-- one less
pub drop_one : {E : Type 0} (n : ℕ) (xs : List E) → drop (n + 1) xs ≡ drop 1 (drop n xs)
drop_one n xs = sym (drop-drop 1 n xs)

-- where nothing stands first, nothing is there
pub without_none : {E : Type 0} (xs : List E) → slice_get xs 0 ≡ None → xs ≡ drop 1 xs
without_none [] h = refl
without_none (x ∷ xs) h = absurd (cc)

module _ {E : Type 0} (cmp : E → E → Ordering) where
  pub rest_rising : (xs : List E) → IsInOrder cmp xs → IsInOrder cmp (drop 1 xs)
  rest_rising [] r = tt
  rest_rising (x ∷ xs) r = r.1

  -- what holds of all holds of them in order
  pub all-in_order : (P : E → Type 0) (xs : List E) → AllByRecursion P xs → AllByRecursion P (in_order cmp xs)
  all-in_order P xs h = from xs [] h tt
    where
      from : (es ys : List E) → AllByRecursion P es → AllByRecursion P ys → AllByRecursion P (insert_all (is_before cmp) es ys)
      from [] ys a b = b
      from (e ∷ es) ys a b = from es _ a.1 (all-insert (is_before cmp) P e ys a.0 b)

  pub count-in_order : (e : E) (xs : List E) → count cmp e (in_order cmp xs) ≡ count cmp e xs
  count-in_order e xs = let h = times-insert_all (is_before cmp) (is_same cmp) e xs [] in omega arith

  count_sum : (e : E) (xs : List E) → count cmp e xs ≡ sum_by (λ x. one (is_same cmp) e x) xs
  count_sum e [] = refl
  count_sum e (x ∷ xs) = let h = count_sum e xs in let k = sum_by-cons (λ y. one (is_same cmp) e y) x xs in omega arith

  -- where they stand does not count
  pub count-permuted : (e : E) (xs ys : List E) → IsPermutation xs ys → count cmp e ys ≡ count cmp e xs
  count-permuted e xs ys p = count_sum e ys ∙ sum_by-IsPermutation (λ x. one (is_same cmp) e x) xs ys p ∙ sym (count_sum e xs)

  -- one more in a heap
  pub pushed : (x : Reverse E) (xs ys : List (Reverse E)) → IsPermutation (x ∷ xs) ys → AreWith cmp (x.0 ∷ []) (events_of xs) (events_of ys)
  pushed x xs ys p = λ e. let h = count-permuted e (events_of (x ∷ xs)) (events_of ys) (IsPermutation-map (λ y. y.0) (x ∷ xs) ys p) in omega arith

  -- one less in a heap
  pub popped : (x : Reverse E) (xs ys : List (Reverse E)) → IsPermutation xs (x ∷ ys) → AreWith cmp (x.0 ∷ []) (events_of ys) (events_of xs)
  popped x xs ys p = λ e. let h = count-permuted e (events_of xs) (events_of (x ∷ ys)) (IsPermutation-map (λ y. y.0) xs (x ∷ ys) p) in omega arith

  module _ (order : IsTotalOrder cmp) (exact : (d e : E) → cmp d e ≡ Equal → d ≡ e) where
    pub law : IsOrder (is_before cmp) (is_same cmp)
    law = order_law cmp order exact

    pub own : (e : E) → one (is_same cmp) e e ≡ 1
    own e = one_self (is_before cmp) (is_same cmp) law e

    -- two lists in order in which each event stands as often are the same
    pub same_rising : (xs ys : List E) → IsInOrder cmp xs → IsInOrder cmp ys → ((e : E) → count cmp e xs ≡ count cmp e ys) → xs ≡ ys
    same_rising [] [] r q h = refl
    same_rising [] (y ∷ ys) r q h = absurd (let k = h y in let o = own y in omega arith)
    same_rising (x ∷ xs) [] r q h = absurd (let k = h x in let o = own x in omega arith)
    same_rising (x ∷ xs) (y ∷ ys) r q h =
        let x_own = own x in
        let y_own = own y in
        let x_count = h x in
        let y_count = h y in
        let same : x ≡ y = elim (in_cons (is_before cmp) (is_same cmp) law x y ys (omega arith)) [
          | inl is ↦ is
          | inr k ↦ elim (in_cons (is_before cmp) (is_same cmp) law y x xs (omega arith)) [
            | inl is ↦ sym is
            | inr l ↦ law.total x y (q.0 x k) (r.0 y l)
          ]
        ] in
        let tails : xs ≡ ys = same_rising xs ys r.1 q.1 (λ e.
        let k = h e in
        let l : one (is_same cmp) e x ≡ one (is_same cmp) e y = ap (one (is_same cmp) e) same in
        omega arith) in
        cc

    pub rising : (xs : List E) → IsInOrder cmp (in_order cmp xs)
    rising xs = rising-insert_all (is_before cmp) (is_same cmp) law xs [] tt

    -- more go into their places
    pub more_in_order : (more xs ys : List E) → AreWith cmp more xs ys → in_order cmp ys ≡ insert_all (is_before cmp) more (in_order cmp xs)
    more_in_order more xs ys h =
        same_rising (in_order cmp ys) (insert_all (is_before cmp) more (in_order cmp xs)) (rising ys) (rising-insert_all (is_before cmp) (is_same cmp) law more (in_order cmp xs) (rising xs))
        (λ e.
        let a = count-in_order e ys in
        let b = count-in_order e xs in
        let c = times-insert_all (is_before cmp) (is_same cmp) e more (in_order cmp xs) in
        let d = h e in
        omega arith)

    steps : (xs : List E) → ((k : ℕ) (d : E) → suc k < length xs → is_lt (cmp (get_or xs (suc k) d) (get_or xs k d)) ≡ false) → IsInOrder cmp xs
    steps [] h = tt
    steps (x ∷ []) h = ((λ e none. absurd (omega arith)), tt)
    steps (x ∷ y ∷ xs) h =
        let rest = steps (y ∷ xs) (λ k d l. h (suc k) d (omega arith)) in
        let next : is_before cmp y x ≡ false = h zero x (omega arith) in (
          (λ e there. elim (in_cons (is_before cmp) (is_same cmp) law e y xs there) [
            | inl is ↦ subst (λ z. is_before cmp z x ≡ false) (sym is) next
            | inr k ↦ not_before (is_before cmp) (is_same cmp) law e y x (rest.0 e k) next
          ]),
          rest,
        )

    -- a list, sorted
    pub sorted : (xs ys : List E) → IsPermutation xs ys → IsSorted cmp ys → ys ≡ in_order cmp xs
    sorted xs ys p h =
        same_rising ys (in_order cmp xs) (steps ys (λ k d l. rw add-one at (h k d (omega arith) (omega arith)))) (rising xs)
        (λ e. let a = count-permuted e xs ys p in let b = count-in_order e xs in omega arith)

    -- what none is before stands first
    pub first_is : (xs : List E) (x : E) → 0 < count cmp x xs → ((e : E) → 0 < count cmp e xs → is_before cmp e x ≡ false) → slice_get (in_order cmp xs) 0 ≡ Some x
    first_is xs x there least = of (in_order cmp xs) (rising xs) (λ e. count-in_order e xs)
      where
        of : (zs : List E) → IsInOrder cmp zs → ((e : E) → count cmp e zs ≡ count cmp e xs) → slice_get zs 0 ≡ Some x
        of [] r same = absurd (let h = same x in omega arith)
        of (z ∷ zs) r same =
            let o = own z in
            let z_same = same z in
            let x_same = same x in
            let is : z ≡ x = elim (in_cons (is_before cmp) (is_same cmp) law x z zs (omega arith)) [
              | inl is ↦ sym is
              | inr k ↦ law.total z x (least z (omega arith)) (r.0 x k)
            ] in
            ap Some is

    -- and without it the others stand there
    pub without_first : (xs ys : List E) (x : E) → slice_get (in_order cmp xs) 0 ≡ Some x → AreWith cmp (x ∷ []) ys xs → in_order cmp ys ≡ drop 1 (in_order cmp xs)
    without_first xs ys x first h = of (in_order cmp xs) first (rising xs) (λ e. count-in_order e xs)
      where
        of : (zs : List E) → slice_get zs 0 ≡ Some x → IsInOrder cmp zs → ((e : E) → count cmp e zs ≡ count cmp e xs) → in_order cmp ys ≡ drop 1 zs
        of [] at r same = absurd (cc)
        of (z ∷ zs) at r same =
            let is : z ≡ x = cc in
            same_rising (in_order cmp ys) zs (rising ys) r.1 (λ e.
            let a = count-in_order e ys in
            let b = same e in
            let c = h e in
            let d : one (is_same cmp) e z ≡ one (is_same cmp) e x = ap (one (is_same cmp) e) is in
            omega arith)
