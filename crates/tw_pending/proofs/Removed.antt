-- Lists of events without one of them.
use Rattle.std.proofs.Common.{◌≡◌, ℕ, zero, suc, ◌+◌, ◌-◌, ◌<◌, ◌≤◌, Bool, true, false, cond, List, [], ◌∷◌, ◌++◌, Some, drop, get_or, length, length-drop, nat_lt, remove, slice_get, take, take_all, refl, ap, sym, ◌∙◌, subst, inl, inr, arith}
use Rattle.std.specs.Bool.{OnFalse, OnTrue}
use Rattle.std.specs.Cmp.{IsTotalOrder}
use Rattle.std.specs.List.{AllByRecursion, prefix_len}
use Rattle.std.specs.List.Sorted.{IsPermutation}
use Rattle.std.specs.declared.cmp.Ordering.{Ordering}
use Rattle.std.specs.declared.cmp.Ordering.TheVariants.{Equal}
use Rattle.std.specs.declared.cmp.Reverse.{Reverse}
use Rattle.std.proofs.lemmas.Bool.{cases_Bool, false_from_ne_true, lt-ltb, ltb-true}
use Rattle.std.proofs.lemmas.List.Sorted.{IsPermutation-map}
use Rattle.tw_sim.specs.Ordered.{one, take_out}
use Rattle.tw_pending.specs.Order.{AreWith, IsInOrder, count, in_order, is_other, is_same}
use Rattle.tw_pending.specs.Ring.{all_in, all_of, events_of, waiting_in}
use Rattle.tw_pending.proofs.All.{count-append}
use Rattle.tw_pending.proofs.Counts.{count-in_order, count-permuted, law, own, popped, rising, same_rising}

-- what holds where a test is passed, or is not, made weaker
pub on_true : {P Q : Type 0} (b : Bool) → (P → Q) → OnTrue b P → OnTrue b Q
on_true true f h = f h
on_true false f h = tt

pub on_false : {P Q : Type 0} (b : Bool) → (P → Q) → OnFalse b P → OnFalse b Q
on_false true f h = tt
on_false false f h = f h

-- ---- without the one at a place

module _ {X : Type 0} where
  remove_none : (i : ℕ) → remove {X = X} [] i ≡ []
  remove_none zero = refl
  remove_none (suc i) = refl

  pub all-remove : (P : X → Type 0) (xs : List X) (i : ℕ) → AllByRecursion P xs → AllByRecursion P (remove xs i)
  all-remove P [] i h = subst (AllByRecursion P) (sym (remove_none i)) tt
  all-remove P (x ∷ xs) zero h = h.1
  all-remove P (x ∷ xs) (suc i) h = (h.0, all-remove P xs i h.1)

  -- behind the first ones
  pub drop-remove : (n i : ℕ) (xs : List X) → drop n (remove xs (n + i)) ≡ remove (drop n xs) i
  drop-remove zero i xs = let none : zero + i ≡ i = omega arith in ap (remove xs) none
  drop-remove (suc n) i [] = ap (drop (suc n)) (remove_none (suc n + i)) ∙ sym (remove_none i)
  drop-remove (suc n) i (x ∷ xs) = let more : suc n + i ≡ suc (n + i) = omega arith in ap (λ k. drop (suc n) (remove (x ∷ xs) k)) more ∙ drop-remove n i xs

  -- a list from a place on
  pub from_place : (n : ℕ) (xs items : List X) → xs ≡ items → take (length xs - n) (drop n xs) ≡ drop n items
  from_place n xs items is = take_all (length xs - n) (drop n xs) (let k = length-drop n xs in omega arith) ∙ ap (drop n) is

module _ {E : Type 0} (cmp : E → E → Ordering) where
  pub count-remove : (e x : E) (xs : List E) (i : ℕ) → slice_get xs i ≡ Some x → count cmp e xs ≡ one (is_same cmp) e x + count cmp e (remove xs i)
  count-remove e x [] i h = absurd (cc)
  count-remove e x (y ∷ ys) zero h = let is : y ≡ x = cc in ap (λ z. one (is_same cmp) e z + count cmp e ys) is
  count-remove e x (y ∷ ys) (suc i) h = let k = count-remove e x ys i h in omega arith

  count-remove-le : (e : E) (xs : List E) (i : ℕ) → count cmp e (remove xs i) ≤ count cmp e xs
  count-remove-le e [] i = let k = ap (count cmp e) (remove_none i) in omega arith
  count-remove-le e (x ∷ xs) zero = omega arith
  count-remove-le e (x ∷ xs) (suc i) = let k = count-remove-le e xs i in omega arith

  pub rising-remove : (xs : List E) (i : ℕ) → IsInOrder cmp xs → IsInOrder cmp (remove xs i)
  rising-remove [] i r = subst (IsInOrder cmp) (sym (remove_none i)) tt
  rising-remove (x ∷ xs) zero r = r.1
  rising-remove (x ∷ xs) (suc i) r = ((λ e there. r.0 e (let k = count-remove-le e xs i in omega arith)), rising-remove xs i r.1)

  -- an event that all are other than is not there
  pub missing : (e : E) (xs : List E) → length xs ≤ prefix_len (is_other cmp e) xs → count cmp e xs ≡ 0
  missing e [] h = refl
  missing e (x ∷ xs) h =
      elim (cases_Bool (is_same cmp e x)) [
        | inl same ↦ absurd (let k = rw same at h in omega arith)
        | inr other ↦ (let k = missing e xs (let l = rw other at h in omega arith) in rw other (omega arith))
      ]

  -- ---- in a heap

  prefix-events : (p : E → Bool) (items : List (Reverse E)) → prefix_len (λ x. p x.0) items ≡ prefix_len p (events_of items)
  prefix-events p [] = refl
  prefix-events p (x ∷ xs) = ap (λ n. cond (p x.0) (1 + n) 0) (prefix-events p xs)

  length-events : (items : List (Reverse E)) → length (events_of items) ≡ length items
  length-events [] = refl
  length-events (x ∷ xs) = let k = length-events xs in omega arith

  pub missing_in_heap : (e : E) (items : List (Reverse E)) → length items ≤ prefix_len (λ x. is_other cmp e x.0) items → count cmp e (events_of items) ≡ 0
  missing_in_heap e items h = missing e (events_of items) (let a = prefix-events (is_other cmp e) items in let b = length-events items in omega arith)

  at_place : (x : Reverse E) (items : List (Reverse E)) (i : ℕ) → i < length items → x ≡ get_or items i x → slice_get (events_of items) i ≡ Some x.0
  at_place x [] i l is = absurd (omega arith)
  at_place x (y ∷ ys) zero l is = ap (λ z. Some z.0) (sym is)
  at_place x (y ∷ ys) (suc i) l is = at_place x ys i (omega arith) is

  -- ---- a tick, a heap and lists

  -- one less in the tick
  pub less_in_tick : (more tick left : List E) (rest : List E) → AreWith cmp more left tick → AreWith cmp more (left ++ rest) (tick ++ rest)
  less_in_tick more tick left rest h = λ e.
      let a = h e in
      let b = count-append cmp e tick rest in
      let c = count-append cmp e left rest in
      omega arith

  -- or elsewhere
  pub less_in_rest : (more tick rest left : List E) → AreWith cmp more left rest → AreWith cmp more (tick ++ left) (tick ++ rest)
  less_in_rest more tick rest left h = λ e.
      let a = h e in
      let b = count-append cmp e tick rest in
      let c = count-append cmp e tick left in
      omega arith

  -- an event that stands in none of them
  pub nowhere : (e : E) (tick : List E) (items : List (Reverse E)) (days : List (List E)) → count cmp e tick ≡ 0 → count cmp e (events_of items) ≡ 0 → count cmp e (all_of days) ≡ 0
      → count cmp e (tick ++ waiting_in items days) ≡ 0
  nowhere e tick items days a b c =
      let s = count-append cmp e tick (waiting_in items days) in
      let t = count-append cmp e (events_of items) (all_of days) in
      omega arith

  module _ (order : IsTotalOrder cmp) (exact : (d e : E) → cmp d e ≡ Equal → d ≡ e) where
    -- the first event that e is not other than is e
    pub found : (e : E) (xs : List E) → prefix_len (is_other cmp e) xs < length xs → slice_get xs (prefix_len (is_other cmp e) xs) ≡ Some e
    found e [] h = absurd (omega arith)
    found e (x ∷ xs) h =
        elim (cases_Bool (is_same cmp e x)) [
          | inl same ↦ rw same (ap Some (sym ((law cmp order exact).same_is e x same)))
          | inr other ↦ (
              let rest = found e xs (let l = rw other at h in omega arith) in
              let n = prefix_len (is_other cmp e) xs in
              let more : 1 + n ≡ suc n = omega arith in
              rw other (ap (slice_get (x ∷ xs)) more ∙ rest))
        ]

    -- the one taken out of a heap is e, and the others are there still
    pub heap_less : (e : E) (x : Reverse E) (old rest new : List (Reverse E)) (i : ℕ) → i ≡ prefix_len (λ y. is_other cmp e y.0) old → i < length old → x ≡ get_or old i x
        → IsPermutation old (x ∷ rest) → IsPermutation rest new → AreWith cmp (e ∷ []) (events_of new) (events_of old)
    heap_less e x old rest new i is l at p q = λ d.
        let place : i ≡ prefix_len (is_other cmp e) (events_of old) = is ∙ prefix-events (is_other cmp e) old in
        let long = length-events old in
        let here : Some e ≡ Some x.0 = sym (found e (events_of old) (omega arith)) ∙ (ap (slice_get (events_of old)) (sym place) ∙ at_place x old i l at) in
        let same : e ≡ x.0 = cc in
        let a = popped cmp x old rest p d in
        let b = count-permuted cmp d (events_of rest) (events_of new) (IsPermutation-map (λ y. y.0) rest new q) in
        let c = ap (one (is_same cmp) d) same in
        omega arith

    -- ---- without one event

    count-take_out : (e x : E) (xs : List E) → 0 < count cmp x xs → one (is_same cmp) e x + count cmp e (take_out (is_same cmp) x xs) ≡ count cmp e xs
    count-take_out e x [] h = absurd (omega arith)
    count-take_out e x (y ∷ ys) h =
        elim (cases_Bool (is_same cmp x y)) [
          | inl b ↦ rw b (ap (λ z. one (is_same cmp) e z + count cmp e ys) ((law cmp order exact).same_is x y b))
          | inr b ↦ (
              let other : one (is_same cmp) x y ≡ 0 = rw b refl in
              let k = count-take_out e x ys (omega arith) in
              rw b (omega arith))
        ]

    count-take_out-le : (e x : E) (xs : List E) → count cmp e (take_out (is_same cmp) x xs) ≤ count cmp e xs
    count-take_out-le e x [] = omega arith
    count-take_out-le e x (y ∷ ys) =
        let h = count-take_out-le e x ys in
        elim (cases_Bool (is_same cmp x y)) [ inl b ↦ rw b (omega arith) | inr b ↦ rw b (omega arith) ]

    take_out-none : (x : E) (xs : List E) → count cmp x xs ≡ 0 → take_out (is_same cmp) x xs ≡ xs
    take_out-none x [] h = refl
    take_out-none x (y ∷ ys) h =
        elim (cases_Bool (is_same cmp x y)) [
          | inl b ↦ absurd (let k = rw b at h in omega arith)
          | inr b ↦ rw b (ap (λ zs. y ∷ zs) (take_out-none x ys (let k = rw b at h in omega arith)))
        ]

    rising-take_out : (x : E) (xs : List E) → IsInOrder cmp xs → IsInOrder cmp (take_out (is_same cmp) x xs)
    rising-take_out x [] r = tt
    rising-take_out x (y ∷ ys) r =
        elim (cases_Bool (is_same cmp x y)) [
          | inl b ↦ rw b r.1
          | inr b ↦ rw b ((λ e there. r.0 e (let k = count-take_out-le e x ys in omega arith)), rising-take_out x ys r.1)
        ]

    -- one less
    without_one : (xs ys : List E) (x : E) → AreWith cmp (x ∷ []) ys xs → in_order cmp ys ≡ take_out (is_same cmp) x (in_order cmp xs)
    without_one xs ys x h =
        let self = own cmp order exact x in
        let some : 0 < count cmp x (in_order cmp xs) = (let a = count-in_order cmp x xs in let b = h x in omega arith) in
        same_rising cmp order exact (in_order cmp ys) (take_out (is_same cmp) x (in_order cmp xs)) (rising cmp order exact ys)
        (rising-take_out x (in_order cmp xs) (rising cmp order exact xs))
        (λ e.
        let a = count-in_order cmp e ys in
        let b = count-in_order cmp e xs in
        let c = count-take_out e x (in_order cmp xs) some in
        let d = h e in
        omega arith)

    -- the ring has gone on since
    moved : (more was tick begun : List E) (items : List (Reverse E)) (days left : List (List E)) → AreWith cmp more (tick ++ waiting_in items days) was
        → AreWith cmp [] (tick ++ all_of days) (begun ++ all_of left) → AreWith cmp more (begun ++ waiting_in items left) was
    moved more was tick begun items days left h gone = λ e.
        let a = h e in
        let b = gone e in
        let c = count-append cmp e tick (waiting_in items days) in
        let d = count-append cmp e begun (waiting_in items left) in
        let f = count-append cmp e (events_of items) (all_of days) in
        let g = count-append cmp e (events_of items) (all_of left) in
        let k = count-append cmp e tick (all_of days) in
        let l = count-append cmp e begun (all_of left) in
        omega arith

    module _ (e : E) (was tick begun : List E) (items : List (Reverse E)) (days left : List (List E)) (gone : AreWith cmp [] (tick ++ all_of days) (begun ++ all_of left)) where
      -- one was there, and is not any more
      pub one_less : AreWith cmp (e ∷ []) (tick ++ waiting_in items days) was → all_in cmp begun items left ≡ take_out (is_same cmp) e (in_order cmp was)
      one_less h = without_one was (begun ++ waiting_in items left) e (moved (e ∷ []) was tick begun items days left h gone)

      pub some_there : AreWith cmp (e ∷ []) (tick ++ waiting_in items days) was → true ≡ nat_lt 0 (count cmp e (in_order cmp was))
      some_there h =
          let self = own cmp order exact e in
          let a = count-in_order cmp e was in
          let b = h e in
          sym (lt-ltb 0 (count cmp e (in_order cmp was)) (omega arith))

      -- none was there
      pub none_there : count cmp e was ≡ 0 → false ≡ nat_lt 0 (count cmp e (in_order cmp was))
      none_there none =
          let a = count-in_order cmp e was in
          sym (false_from_ne_true (nat_lt 0 (count cmp e (in_order cmp was))) (λ some. (let k = ltb-true 0 (count cmp e (in_order cmp was)) some in omega arith)))

      pub same_there : AreWith cmp [] (tick ++ waiting_in items days) was → all_in cmp begun items left ≡ in_order cmp was
      same_there h =
          let all = moved [] was tick begun items days left h gone in
          same_rising cmp order exact (all_in cmp begun items left) (in_order cmp was) (rising cmp order exact (begun ++ waiting_in items left)) (rising cmp order exact was)
          (λ d.
          let a = count-in_order cmp d (begun ++ waiting_in items left) in
          let b = count-in_order cmp d was in
          let c = all d in
          omega arith)

      pub none_less : count cmp e was ≡ 0 → AreWith cmp [] (tick ++ waiting_in items days) was → all_in cmp begun items left ≡ take_out (is_same cmp) e (in_order cmp was)
      none_less none h =
          let a = count-in_order cmp e was in
          same_there h ∙ sym (take_out-none e (in_order cmp was) (omega arith))

      -- what is told of it
      pub told_value : (found : Bool) → OnTrue found (AreWith cmp (e ∷ []) (tick ++ waiting_in items days) was) → OnFalse found (count cmp e was ≡ 0)
          → found ≡ nat_lt 0 (count cmp e (in_order cmp was))
      told_value true h k = some_there h
      told_value false h k = none_there k

      pub told_rest : (found : Bool) → OnTrue found (AreWith cmp (e ∷ []) (tick ++ waiting_in items days) was) → OnFalse found (AreWith cmp [] (tick ++ waiting_in items days) was)
          → OnFalse found (count cmp e was ≡ 0) → all_in cmp begun items left ≡ take_out (is_same cmp) e (in_order cmp was)
      told_rest true h k l = one_less h
      told_rest false h k l = none_less l k

      pub told_none : (found : Bool) → OnFalse found (AreWith cmp [] (tick ++ waiting_in items days) was) → OnFalse found (all_in cmp begun items left ≡ in_order cmp was)
      told_none true h = tt
      told_none false h = same_there h

    -- ---- out of a heap alone

    module _ (e : E) (items left : List (Reverse E)) where
      heap_with : AreWith cmp (e ∷ []) (events_of left) (events_of items) → AreWith cmp (e ∷ []) (waiting_in left []) (waiting_in items [])
      heap_with h = λ d.
          let a = h d in
          let b = count-append cmp d (events_of left) [] in
          let c = count-append cmp d (events_of items) [] in
          omega arith

      heap_without : count cmp e (events_of items) ≡ 0 → count cmp e (waiting_in items []) ≡ 0
      heap_without h = (let b = count-append cmp e (events_of items) [] in omega arith)

      pub heap_value : (found : Bool) → OnTrue found (AreWith cmp (e ∷ []) (events_of left) (events_of items)) → OnFalse found (count cmp e (events_of items) ≡ 0)
          → found ≡ nat_lt 0 (count cmp e (all_in cmp [] items []))
      heap_value true h k = some_there e (waiting_in items []) [] [] left [] [] (λ d. refl) (heap_with h)
      heap_value false h k = none_there e (waiting_in items []) [] [] left [] [] (λ d. refl) (heap_without k)

      pub heap_rest : (found : Bool) → OnTrue found (AreWith cmp (e ∷ []) (events_of left) (events_of items)) → OnFalse found (left ≡ items) → OnFalse found (count cmp e (events_of items) ≡ 0)
          → all_in cmp [] left [] ≡ take_out (is_same cmp) e (all_in cmp [] items [])
      heap_rest true h same k = one_less e (waiting_in items []) [] [] left [] [] (λ d. refl) (heap_with h)
      heap_rest false h same k = none_less e (waiting_in items []) [] [] left [] [] (λ d. refl) (heap_without k) (λ d. (let is = ap (λ zs. count cmp d (waiting_in zs [])) same in omega arith))
