-- What stands in a list: through map, filter, zip and the like.
use Rattle.std.proofs.Common.{◌≡◌, ℕ, suc, zero, ◌+◌, ◌<◌, ◌≤◌, Bool, true, cond, List, [], ◌∷◌, ◌++◌, length, map, filter, get_or, set, Option, Some, None, refl, ap, sym, ◌∙◌, subst, ◌⊎◌, inl, inr, arith}
use Rattle.std.specs.List.{All, cons_option, enumerate_from, filter_map, find, flat_map, list_any, range_with_len, swap, zip, position_or_len}
use Rattle.std.proofs.lemmas.Bool.{cases_Bool, cases_eq, or_left, or_right}
use Rattle.tw_sim.specs.Simulation.{Simulation, one, times}

-- x stands in the list
abbrev pub In : {X : Type 0} → X → List X → Type 0
In x [] = ⊥
In x (y ∷ ys) = (x ≡ y) ⊎ In x ys

module _ {X : Type 0} where
  pub in_append : (x : X) (xs ys : List X) → In x (xs ++ ys) → In x xs ⊎ In x ys
  in_append x [] ys h = inr h
  in_append x (y ∷ xs) ys (inl e) = inl (inl e)
  in_append x (y ∷ xs) ys (inr h) = elim (in_append x xs ys h) [ inl k ↦ inl (inr k) | inr k ↦ inr k ]

  pub in_left : (x : X) (xs ys : List X) → In x xs → In x (xs ++ ys)
  in_left x (y ∷ xs) ys (inl e) = inl e
  in_left x (y ∷ xs) ys (inr h) = inr (in_left x xs ys h)
  in_left x [] ys h = absurd h

  pub in_right : (x : X) (xs ys : List X) → In x ys → In x (xs ++ ys)
  in_right x [] ys h = h
  in_right x (y ∷ xs) ys h = inr (in_right x xs ys h)

  pub in_get_or : (xs : List X) (k : ℕ) (d : X) → k < length xs → In (get_or xs k d) xs
  in_get_or [] k d h = absurd (omega arith)
  in_get_or (x ∷ xs) zero d h = inl refl
  in_get_or (x ∷ xs) (suc k) d h = inr (in_get_or xs k d (omega arith))

  -- where an element stands
  pub place : (x : X) (xs : List X) → In x xs → (k : ℕ) × (k < length xs) × ((d : X) → get_or xs k d ≡ x)
  place x (y ∷ xs) (inl e) = (0, omega arith, λ d. sym e)
  place x (y ∷ xs) (inr h) = let p = place x xs h in (suc p.0, omega arith, p.2)
  place x [] h = absurd h

  pub all_from_in : (P : X → Type 0) (xs : List X) → ((x : X) → In x xs → P x) → All P xs
  all_from_in P xs h = λ k d l. h (get_or xs k d) (in_get_or xs k d l)

  pub in_from_all : (P : X → Type 0) (xs : List X) → All P xs → (x : X) → In x xs → P x
  in_from_all P xs a x h = let p = place x xs h in subst P (p.2 x) (a p.0 x p.1)

  pub in_filter : (p : X → Bool) (x : X) (xs : List X) → In x (filter p xs) → (p x ≡ true) × In x xs
  in_filter p x [] h = absurd h
  in_filter p x (y ∷ ys) h =
      elim (cases_Bool (p y)) [
        | inl b ↦ elim (rw b at h) [
          | inl e ↦ (subst (λ z. p z ≡ true) (sym e) b, inl e)
          | inr k ↦ (let r = in_filter p x ys k in (r.0, inr r.1))
        ]
        | inr b ↦ (let r = in_filter p x ys (rw b at h) in (r.0, inr r.1))
      ]

  pub in_filtered : (p : X → Bool) (x : X) (xs : List X) → p x ≡ true → In x xs → In x (filter p xs)
  in_filtered p x (y ∷ ys) b (inl e) = rw (subst (λ z. p z ≡ true) e b) (inl e)
  in_filtered p x (y ∷ ys) b (inr h) =
      elim (cases_Bool (p y)) [
        | inl c ↦ rw c (inr (in_filtered p x ys b h))
        | inr c ↦ rw c (in_filtered p x ys b h)
      ]
  in_filtered p x [] b h = absurd h

  -- the first that passes stands in the list and passes
  pub in_find : (p : X → Bool) (x : X) (xs : List X) → find p xs ≡ Some x → (p x ≡ true) × In x xs
  in_find p x [] h = cc
  in_find p x (y ∷ ys) h =
      elim (cases_Bool (p y)) [
        | inl b ↦ (let e : y ≡ x = (let k = rw b at h in cc) in (subst (λ z. p z ≡ true) e b, inl (sym e)))
        | inr b ↦ (let r = in_find p x ys (rw b at h) in (r.0, inr r.1))
      ]

  pub find_some : (p : X → Bool) (xs : List X) → list_any p xs ≡ true → (x : X) × (find p xs ≡ Some x)
  find_some p [] h = cc
  find_some p (y ∷ ys) h =
      elim (cases_Bool (p y)) [
        | inl b ↦ (y, rw b refl)
        | inr b ↦ (let r = find_some p ys (rw b at h) in (r.0, rw b r.1))
      ]

  pub find_agree : (p q : X → Bool) → ((x : X) → p x ≡ q x) → (xs : List X) → find p xs ≡ find q xs
  find_agree p q h [] = refl
  find_agree p q h (x ∷ xs) = rw (h x) (ap (cond (q x) (Some x)) (find_agree p q h xs))

  pub any_from_in : (p : X → Bool) (x : X) (xs : List X) → p x ≡ true → In x xs → list_any p xs ≡ true
  any_from_in p x (y ∷ ys) b (inl e) = or_left (p y) (list_any p ys) (subst (λ z. p z ≡ true) e b)
  any_from_in p x (y ∷ ys) b (inr h) = or_right (p y) (list_any p ys) (any_from_in p x ys b h)
  any_from_in p x [] b h = absurd h

  pub in_from_any : (p : X → Bool) (xs : List X) → list_any p xs ≡ true → (x : X) × (p x ≡ true) × In x xs
  in_from_any p xs h = let f = find_some p xs h in let r = in_find p f.0 xs f.1 in (f.0, r.0, r.1)

  -- the place of the first that passes is within the list where one passes, and there one stands that does
  pub place_within : (p : X → Bool) (x : X) (xs : List X) → p x ≡ true → In x xs → position_or_len p xs < length xs
  place_within p x (y ∷ ys) b (inl e) = rw (subst (λ z. p z ≡ true) e b) (omega arith)
  place_within p x (y ∷ ys) b (inr h) =
      let k = place_within p x ys b h in
      elim (cases_Bool (p y)) [ inl c ↦ rw c (omega arith) | inr c ↦ rw c (omega arith) ]
  place_within p x [] b h = absurd h

  pub in_set : (x y : X) (xs : List X) (k : ℕ) → In x (set xs k y) → (x ≡ y) ⊎ In x xs
  in_set x y [] k h = absurd h
  in_set x y (z ∷ xs) zero (inl e) = inl e
  in_set x y (z ∷ xs) zero (inr h) = inr (inr h)
  in_set x y (z ∷ xs) (suc k) (inl e) = inr (inl e)
  in_set x y (z ∷ xs) (suc k) (inr h) = elim (in_set x y xs k h) [ inl e ↦ inl e | inr r ↦ inr (inr r) ]

  pub in_or_default : (d : X) (xs : List X) (k : ℕ) → (get_or xs k d ≡ d) ⊎ In (get_or xs k d) xs
  in_or_default d [] k = inl refl
  in_or_default d (x ∷ xs) zero = inr (inl refl)
  in_or_default d (x ∷ xs) (suc k) = elim (in_or_default d xs k) [ inl e ↦ inl e | inr h ↦ inr (inr h) ]

  pub in_get_or_self : (d : X) (xs : List X) (k : ℕ) → In (get_or (d ∷ xs) k d) (d ∷ xs)
  in_get_or_self d xs zero = inl refl
  in_get_or_self d xs (suc k) = in_or_default d xs k

  -- what stands in a list after an exchange stood there before
  pub in_swap : (x : X) (xs : List X) (i j : ℕ) → In x (swap xs i j) → In x xs
  in_swap x [] i j h = absurd h
  in_swap x (d ∷ ys) i j h =
      elim (in_set x (get_or (d ∷ ys) i d) (set (d ∷ ys) i (get_or (d ∷ ys) j d)) j h) [
        | inl e ↦ subst (λ z. In z (d ∷ ys)) (sym e) (in_get_or_self d ys i)
        | inr k ↦ elim (in_set x (get_or (d ∷ ys) j d) (d ∷ ys) i k) [
          | inl e ↦ subst (λ z. In z (d ∷ ys)) (sym e) (in_get_or_self d ys j)
          | inr old ↦ old
        ]
      ]

module _ {X Y : Type 0} where
  pub in_map : (f : X → Y) (y : Y) (xs : List X) → In y (map f xs) → (x : X) × (y ≡ f x) × In x xs
  in_map f y [] h = absurd h
  in_map f y (x ∷ xs) (inl e) = (x, e, inl refl)
  in_map f y (x ∷ xs) (inr h) = let r = in_map f y xs h in (r.0, r.1, inr r.2)

  pub in_mapped : (f : X → Y) (x : X) (xs : List X) → In x xs → In (f x) (map f xs)
  in_mapped f x (y ∷ xs) (inl e) = inl (ap f e)
  in_mapped f x (y ∷ xs) (inr h) = inr (in_mapped f x xs h)
  in_mapped f x [] h = absurd h

  pub in_filter_map : (f : X → Option Y) (y : Y) (xs : List X) → In y (filter_map f xs) → (x : X) × (f x ≡ Some y) × In x xs
  in_filter_map f y [] h = absurd h
  in_filter_map f y (x ∷ xs) h = at (f x) refl h (in_filter_map f y xs) where
    at : (o : Option Y) → f x ≡ o → In y (cons_option o (filter_map f xs))
        → (In y (filter_map f xs) → (z : X) × (f z ≡ Some y) × In z xs) → (z : X) × (f z ≡ Some y) × In z (x ∷ xs)
    at None e h more = let r = more h in (r.0, r.1, inr r.2)
    at (Some w) e (inl is) more = (x, e ∙ ap Some (sym is), inl refl)
    at (Some w) e (inr h) more = let r = more h in (r.0, r.1, inr r.2)

  pub in_filter_mapped : (f : X → Option Y) (x : X) (y : Y) (xs : List X) → f x ≡ Some y → In x xs → In y (filter_map f xs)
  in_filter_mapped f x y (z ∷ xs) e (inl is) = rw (subst (λ w. f w ≡ Some y) is e) (inl refl)
  in_filter_mapped f x y (z ∷ xs) e (inr h) = in_cons (f z) (in_filter_mapped f x y xs e h) where
    in_cons : (o : Option Y) → In y (filter_map f xs) → In y (cons_option o (filter_map f xs))
    in_cons None k = k
    in_cons (Some w) k = inr k
  in_filter_mapped f x y [] e h = absurd h

  pub in_zip : (p : X × Y) (xs : List X) (ys : List Y) → In p (zip xs ys) → In p.0 xs × In p.1 ys
  in_zip p [] ys h = absurd h
  in_zip p (x ∷ xs) [] h = absurd h
  in_zip p (x ∷ xs) (y ∷ ys) (inl e) = (inl (ap (λ q. q.0) e), inl (ap (λ q. q.1) e))
  in_zip p (x ∷ xs) (y ∷ ys) (inr h) = let r = in_zip p xs ys h in (inr r.0, inr r.1)

  pub in_flat_map : (f : X → List Y) (y : Y) (xs : List X) → In y (flat_map f xs) → (x : X) × In y (f x) × In x xs
  in_flat_map f y [] h = absurd h
  in_flat_map f y (x ∷ xs) h =
      elim (in_append y (f x) (flat_map f xs) h) [
        | inl k ↦ (x, k, inl refl)
        | inr k ↦ (let r = in_flat_map f y xs k in (r.0, r.1, inr r.2))
      ]

  pub in_flat_mapped : (f : X → List Y) (x : X) (y : Y) (xs : List X) → In y (f x) → In x xs → In y (flat_map f xs)
  in_flat_mapped f x y (z ∷ xs) h (inl e) = in_left y (f z) (flat_map f xs) (subst (λ w. In y (f w)) e h)
  in_flat_mapped f x y (z ∷ xs) h (inr k) = in_right y (f z) (flat_map f xs) (in_flat_mapped f x y xs h k)
  in_flat_mapped f x y [] h k = absurd k

pub in_range : (k a n : ℕ) → In k (range_with_len a n) → (a ≤ k) × (k < a + n)
in_range k a zero h = absurd h
in_range k a (suc n) (inl e) = (omega arith, omega arith)
in_range k a (suc n) (inr h) = let r = in_range k (a + 1) n h in (omega arith, omega arith)

pub range_has : (k a n : ℕ) → a ≤ k → k < a + n → In k (range_with_len a n)
range_has k a zero l u = absurd (omega arith)
range_has k a (suc n) l u = elim (cases_eq k a) [ inl e ↦ inl e | inr d ↦ inr (range_has k (a + 1) n (omega arith) (omega arith)) ]

pub in_enumerate : {X : Type 0} (p : ℕ × X) (n : ℕ) (xs : List X) → In p (enumerate_from n xs) → (n ≤ p.0) × (p.0 < n + length xs) × In p.1 xs
in_enumerate p n [] h = absurd h
in_enumerate p n (x ∷ xs) (inl e) = let k = ap (λ q. q.0) e in (omega arith, omega arith, inl (ap (λ q. q.1) e))
in_enumerate p n (x ∷ xs) (inr h) = let r = in_enumerate p (n + 1) xs h in (omega arith, omega arith, inr r.2)

-- what is counted in a list stands there
pub in_times : {S E : Type 0} (m : Simulation S E) → ((x y : E) → m.same x y ≡ true → x ≡ y) → (x : E) (xs : List E) → 0 < times m x xs → In x xs
in_times m is x [] h = absurd (omega arith)
in_times m is x (y ∷ ys) h =
    elim (cases_Bool (m.same x y)) [
      | inl b ↦ inl (is x y b)
      | inr b ↦ inr (in_times m is x ys (let k : one m x y ≡ 0 = rw b refl in omega arith))
    ]

-- what stands in a list is counted there
pub times_in : {S E : Type 0} (m : Simulation S E) → ((x : E) → m.same x x ≡ true) → (x : E) (xs : List E) → In x xs → 0 < times m x xs
times_in m self x (y ∷ ys) (inl e) = let k : one m x y ≡ 1 = rw (subst (λ z. m.same x z ≡ true) e (self x)) refl in omega arith
times_in m self x (y ∷ ys) (inr h) = let k = times_in m self x ys h in omega arith
times_in m self x [] h = absurd h
