-- Lists that are kept in order: an element goes in and comes out again, and what order they came in does not count.
use Rattle.std.proofs.Common.{◌+◌, ◌⊎◌, filter, ◌≡◌, ℕ, suc, zero, ◌<◌, Bool, true, false, cond, List, []}
use Rattle.std.proofs.Common.{◌∷◌, length, get_or, set, refl, ap, sym, ◌∙◌, subst, inl, inr, arith, get_or-set_same, get_or-set_other, length-set, add-one}
use Rattle.std.specs.List.{AllByRecursion, swap}
use Rattle.std.specs.List.Sorted.{IsPermutation, IsSortedBy}
use Rattle.std.proofs.lemmas.Bool.{cases_Bool, cases_eq}
use Rattle.std.proofs.lemmas.List.Sorted.{IsPermutation-keeps}
use Rattle.tw_sim.specs.Ordered.{insert, insert_all, one, take_out, times}
use Rattle.tw_sim.specs.Rising.{IsRising}
use Rattle.tw_sim.proofs.Ordered.{IsOrder, all-insert, length-insert, one_self, rising-insert, times-insert}
use Rattle.tw_ordered.specs.InOrder.{in_order}

pub cases_zero : (n : ℕ) → (n ≡ 0) ⊎ (0 < n)
cases_zero zero = inl refl
cases_zero (suc n) = inr (omega arith)

module _ {E : Type 0} (before same : E → E → Bool) where
  pub all-in_order : (P : E → Type 0) (xs : List E) → AllByRecursion P xs → AllByRecursion P (in_order before xs)
  unfolding in_order
  all-in_order P [] h = tt
  all-in_order P (x ∷ xs) h = all-insert before P x (in_order before xs) h.0 (all-in_order P xs h.1)

  all-from_insert : (P : E → Type 0) (e : E) (xs : List E) → AllByRecursion P (insert before e xs) → P e × AllByRecursion P xs
  all-from_insert P e [] h = h
  all-from_insert P e (x ∷ xs) h =
      elim (cases_Bool (before x e)) [
        | inl b ↦
            let k : P x × AllByRecursion P (insert before e xs) = rw b at h in
            let l = all-from_insert P e xs k.1 in
            (l.0, (k.0, l.1))
        | inr b ↦ rw b at h
      ]

  pub all-from_in_order : (P : E → Type 0) (xs : List E) → AllByRecursion P (in_order before xs) → AllByRecursion P xs
  unfolding in_order
  all-from_in_order P [] h = tt
  all-from_in_order P (x ∷ xs) h =
      let k = all-from_insert P x (in_order before xs) h in
      (k.0, all-from_in_order P xs k.1)

  pub length-in_order : (xs : List E) → length (in_order before xs) ≡ length xs
  unfolding in_order
  length-in_order [] = refl
  length-in_order (x ∷ xs) = length-insert before x (in_order before xs) ∙ ap suc (length-in_order xs)

  -- what none is before goes to the front
  pub insert_least : (e : E) (xs : List E) → AllByRecursion (λ x. before x e ≡ false) xs → insert before e xs ≡ e ∷ xs
  insert_least e [] h = refl
  insert_least e (x ∷ xs) h = rw h.0 refl

  pub in_order_least : (e : E) (xs : List E) → AllByRecursion (λ x. before x e ≡ false) xs → in_order before (e ∷ xs) ≡ e ∷ in_order before xs
  unfolding in_order
  in_order_least e xs h =
      insert_least e (in_order before xs) (all-in_order (λ x. before x e ≡ false) xs h)

  module _ (law : IsOrder before same) where
    pair : (e f : E) (r : List E) → cond (before f e) (f ∷ e ∷ r) (e ∷ f ∷ r) ≡ cond (before e f) (e ∷ f ∷ r) (f ∷ e ∷ r)
    pair e f r = grind arith

    -- the list in order rises
    pub rising-in_order : (xs : List E) → IsRising before same (in_order before xs)
    unfolding in_order
    rising-in_order [] = tt
    rising-in_order (x ∷ xs) = rising-insert before same law x (in_order before xs) (rising-in_order xs)

    pub behind : (x e : E) (xs : List E) → before x e ≡ true → insert before e (x ∷ xs) ≡ x ∷ insert before e xs
    behind x e xs b = rw b refl

    pub ahead : (x e : E) (xs : List E) → before x e ≡ false → insert before e (x ∷ xs) ≡ e ∷ x ∷ xs
    ahead x e xs b = rw b refl

    round : (e f x : E) (xs : List E) → before x f ≡ true → before x e ≡ false → insert before e (insert before f (x ∷ xs)) ≡ insert before f (insert before e (x ∷ xs))
    round e f x xs b c = grind arith

    -- the order in which two go in does not count
    pub insert-insert : (e f : E) (xs : List E) → insert before e (insert before f xs) ≡ insert before f (insert before e xs)
    insert-insert e f [] = pair e f []
    insert-insert e f (x ∷ xs) = grind (arith, cases_Bool, behind, round, ahead, cond, pair, insert-insert e f xs)

    pub not_same : (x e : E) → before x e ≡ true → same e x ≡ false
    not_same x e h = grind arith

    -- what went in comes out
    pub take_out-insert : (e : E) (xs : List E) → take_out same e (insert before e xs) ≡ xs
    take_out-insert e [] = rw (law.same_self e) refl
    take_out-insert e (x ∷ xs) = grind (arith, cases_Bool, not_same, take_out-insert e xs)

    insert_injective : (e : E) (xs ys : List E) → insert before e xs ≡ insert before e ys → xs ≡ ys
    insert_injective e xs ys h =
        sym (take_out-insert e xs) ∙ ap (take_out same e) h ∙ take_out-insert e ys

    in_order-set : (xs : List E) (i : ℕ) (v d : E) → i < length xs → insert before (get_or xs i d) (in_order before (set xs i v)) ≡ insert before v (in_order before xs)
    unfolding in_order
    in_order-set [] i v d h = absurd (omega arith)
    in_order-set (x ∷ xs) zero v d h = insert-insert x v (in_order before xs)
    in_order-set (x ∷ xs) (suc i) v d h =
        insert-insert (get_or xs i d) x (in_order before (set xs i v)) ∙ ap (insert before x) (in_order-set xs i v d (omega arith)) ∙ insert-insert x v (in_order before xs)

    still : (xs : List E) (i j : ℕ) (d : E) → i < length xs → get_or (set xs i (get_or xs j d)) j d ≡ get_or xs j d
    still xs i j d h = grind (arith, cases_eq, set, get_or-set_same, get_or-set_other)

    in_order-set_set : (xs : List E) (i j : ℕ) (d : E) → i < length xs → j < length xs → in_order before (set (set xs i (get_or xs j d)) j (get_or xs i d)) ≡ in_order before xs
    in_order-set_set xs i j d h k =
        let a = get_or xs i d in
        let b = get_or xs j d in
        let first : insert before a (in_order before (set xs i b)) ≡ insert before b (in_order before xs) = in_order-set xs i b d h in
        let second : insert before (get_or (set xs i b) j d) (in_order before (set (set xs i b) j a)) ≡ insert before a (in_order before (set xs i b)) = in_order-set
        (set xs i b) j a d (rw length-set k) in
        insert_injective b (in_order before (set (set xs i b) j a)) (in_order before xs)
        (subst (λ v. insert before v (in_order before (set (set xs i b) j a)) ≡ insert before b (in_order before xs)) (still xs i j d h) (second ∙ first))

    in_order-swap : (xs : List E) (i j : ℕ) → i < length xs → j < length xs → in_order before (swap xs i j) ≡ in_order before xs
    in_order-swap [] i j h k = refl
    in_order-swap (x ∷ xs) i j h k = in_order-set_set (x ∷ xs) i j x h k

    -- the same elements come into the same order
    pub in_order-permutation : (xs ys : List E) → IsPermutation xs ys → in_order before ys ≡ in_order before xs
    in_order-permutation xs ys p =
        IsPermutation-keeps xs (λ zs. in_order before zs ≡ in_order before xs) refl (λ l i j h k e. in_order-swap l i j h k ∙ e) ys p

    -- what each of the same elements is
    pub all-permutation : (P : E → Type 0) (xs ys : List E) → IsPermutation xs ys → AllByRecursion P xs → AllByRecursion P ys
    all-permutation P xs ys p h =
        all-from_in_order P ys (rw (in_order-permutation xs ys p) (all-in_order P xs h))

    -- each in its turn, or one after the other
    pub insert_all-insert : (e : E) (xs ys : List E) → insert_all before xs (insert before e ys) ≡ insert before e (insert_all before xs ys)
    insert_all-insert e [] ys = refl
    insert_all-insert e (x ∷ xs) ys =
        ap (insert_all before xs) (insert-insert x e ys) ∙ insert_all-insert e xs (insert before x ys)

    pub insert_all_in_order : (xs : List E) → insert_all before xs [] ≡ in_order before xs
    unfolding in_order
    insert_all_in_order [] = refl
    insert_all_in_order (x ∷ xs) = insert_all-insert x xs [] ∙ ap (insert before x) (insert_all_in_order xs)

    -- how often an element stands in a list does not change
    pub times-in_order : (e : E) (xs : List E) → times same e (in_order before xs) ≡ times same e xs
    unfolding in_order
    times-in_order e [] = refl
    times-in_order e (x ∷ xs) =
        times-insert before same e x (in_order before xs) ∙ ap (λ n. one same e x + n) (times-in_order e xs)

    -- what is not there does not come out
    pub take_out_none : (e : E) (xs : List E) → times same e xs ≡ 0 → take_out same e xs ≡ xs
    take_out_none e [] h = refl
    take_out_none e (x ∷ xs) h = grind (arith, cases_Bool, take_out_none e xs (omega arith))

    -- what is there comes out
    pub insert-take_out : (e : E) (xs : List E) → 0 < times same e xs → insert before e (in_order before (take_out same e xs)) ≡ in_order before xs
    unfolding in_order
    insert-take_out e [] h = absurd (omega arith)
    insert-take_out e (x ∷ xs) h =
        elim (cases_Bool (same e x)) [
          | inl b ↦ rw b (ap (λ y. insert before y (in_order before xs)) (law.same_is e x b))
          | inr b ↦
              let k : 0 < 0 + times same e xs = rw b at h in
              rw b (insert-insert e x (in_order before (take_out same e xs)) ∙ ap (insert before x) (insert-take_out e xs (omega arith)))
        ]

    pub times-take_out : (d e : E) (xs : List E) → 0 < times same e xs → one same d e + times same d (take_out same e xs) ≡ times same d xs
    times-take_out d e xs h =
        let a = times-insert before same d e (in_order before (take_out same e xs)) in
        let b = times-in_order d (take_out same e xs) in
        let c = ap (times same d) (insert-take_out e xs h) in
        let f = times-in_order d xs in
        omega arith

    -- the same counts come into the same order
    pub in_order-times : (xs ys : List E) → ((e : E) → times same e xs ≡ times same e ys) → in_order before xs ≡ in_order before ys
    unfolding in_order
    in_order-times [] [] h = refl
    in_order-times [] (y ∷ ys) h =
        let k = h y in
        let s = one_self before same law y in
        absurd (omega arith)
    in_order-times (x ∷ xs) ys h =
        let s = one_self before same law x in
        let k = h x in
        let there : 0 < times same x ys = omega arith in
        let rest : (e : E) → times same e xs ≡ times same e (take_out same x ys) =
        λ e.
        let a = h e in
        let t = times-take_out e x ys there in
        omega arith in
        ap (insert before x) (in_order-times xs (take_out same x ys) rest) ∙ insert-take_out x ys there

    in_order_inserted : (e : E) (xs ys : List E) → ((d : E) → times same d ys ≡ one same d e + times same d xs) → in_order before ys ≡ insert before e (in_order before xs)
    unfolding in_order
    in_order_inserted e xs ys h = in_order-times ys (e ∷ xs) h

    pub in_order_removed : (e : E) (xs ys : List E) → ((d : E) → one same d e + times same d ys ≡ times same d xs) → in_order before ys ≡ take_out same e (in_order before xs)
    in_order_removed e xs ys h =
        sym (take_out-insert e (in_order before ys)) ∙ ap (take_out same e) (sym (in_order_inserted e ys xs (λ d. sym (h d))))

    -- xs becomes ys where ps in it becomes qs
    module _ (xs ys ps qs : List E) (changed : (d : E) → times same d ys + times same d ps ≡ times same d xs + times same d qs) where
      pub in_order-inserted : (e : E) → ((d : E) → times same d qs ≡ one same d e + times same d ps) → in_order before ys ≡ insert before e (in_order before xs)
      in_order-inserted e h = grind (arith, in_order_inserted)

      pub in_order-taken : (e : E) → times same e xs ≡ times same e ps → qs ≡ take_out same e ps → in_order before ys ≡ take_out same e (in_order before xs)
      in_order-taken e h k = grind (arith, cases_zero, times-in_order, take_out_none, in_order-times, times-take_out, in_order_removed)

    pub length-take_out : (e : E) (xs : List E) → 0 < times same e xs → suc (length (take_out same e xs)) ≡ length xs
    length-take_out e [] h = absurd (omega arith)
    length-take_out e (x ∷ xs) h =
        elim (cases_Bool (same e x)) [
          | inl b ↦ rw b refl
          | inr b ↦
              let k : 0 < 0 + times same e xs = rw b at h in
              rw b (ap suc (length-take_out e xs (omega arith)))
        ]

  pub all-take_out : (P : E → Type 0) (e : E) (xs : List E) → AllByRecursion P xs → AllByRecursion P (take_out same e xs)
  all-take_out P e [] h = tt
  all-take_out P e (x ∷ xs) h = grind (arith, cases_Bool, all-take_out P e xs h.1)

  pub all-filter : (P : E → Type 0) (p : E → Bool) (xs : List E) → AllByRecursion P xs → AllByRecursion P (filter p xs)
  all-filter P p [] h = tt
  all-filter P p (x ∷ xs) h = grind (arith, cases_Bool, all-filter P p xs h.1)

  in_order_steps : (xs : List E) → ((k : ℕ) (d : E) → suc k < length xs → before (get_or xs (suc k) d) (get_or xs k d) ≡ false) → in_order before xs ≡ xs
  unfolding in_order
  in_order_steps [] h = refl
  in_order_steps (x ∷ []) h = refl
  in_order_steps (x ∷ y ∷ xs) h =
      ap (insert before x) (in_order_steps (y ∷ xs) (λ k d l. h (suc k) d (omega arith))) ∙ rw (h 0 x (omega arith)) refl

  -- a sorted list is in order
  pub in_order_sorted : (xs : List E) → IsSortedBy before xs → in_order before xs ≡ xs
  in_order_sorted xs h =
      in_order_steps xs (λ k d l. rw add-one at (h k d (omega arith) (omega arith)))
