-- Lists by index (own).
use Rattle.std.proofs.Common.{◌≡◌, Bool, true, false, ℕ, zero, suc, ◌+◌, ◌-◌, ◌<◌, ◌≤◌, List, [], ◌∷◌, ◌++◌, Some, Option, IsSome, ◌↔◌, length, length-append, map, remove, set, None, slice_get, refl, ap, sym, ◌∙◌, subst, take, Result, Ok, Err, OnErr, OnOk, ◌⊎◌, inl, inr, arith}
use Rattle.std.proofs.lemmas.Bool.{cases_lt}
use Rattle.std.specs.Bool.{OnTrue}
use Rattle.std.specs.List.{AllByRecursion}
use Rattle.std.specs.Option.{option_to_list}

-- what an answer tells, told in other words
pub on_ok : {T F A B : Type 0} (r : Result T F) → (A → B) → OnOk r A → OnOk r B
on_ok (Ok u) f h = f h
on_ok (Err u) f h = tt

pub on_err : {T F A B : Type 0} (r : Result T F) → (A → B) → OnErr r A → OnErr r B
on_err (Ok u) f h = tt
on_err (Err u) f h = f h

-- what holds whatever is answered
pub if_err : {T F A : Type 0} (r : Result T F) → A → OnErr r A
if_err (Ok u) h = tt
if_err (Err u) h = h

-- what holds where a test is passed
pub on_yes : {A : Type 0} (b : Bool) → b ≡ true → OnTrue b A → A
on_yes true is h = h
on_yes false is h = cc

-- what holds of each stop where an answer is given
pub on_ok_each : {T F B : Type 0} {A : ℕ → Type 0} (r : Result T F) → (((n : ℕ) → A n) → B) → ((n : ℕ) → OnOk r (A n)) → OnOk r B
on_ok_each (Ok u) f h = f h
on_ok_each (Err u) f h = tt

pub on_err_each : {T F B : Type 0} {A : ℕ → Type 0} (r : Result T F) → (((n : ℕ) → A n) → B) → ((n : ℕ) → OnErr r (A n)) → OnErr r B
on_err_each (Ok u) f h = tt
on_err_each (Err u) f h = f h

module _ {X : Type 0} where
  -- what is within a list's length is there
  pub there_at : (xs : List X) (i : ℕ) → i < length xs → (x : X) × (slice_get xs i ≡ Some x)
  there_at [] i l = absurd (omega arith)
  there_at (x ∷ xs) zero l = (x, refl)
  there_at (x ∷ xs) (suc i) l = there_at xs i (omega arith)

  -- what is there is within its length
  pub within : (xs : List X) (i : ℕ) (x : X) → slice_get xs i ≡ Some x → i < length xs
  within [] i x h = cc
  within (z ∷ xs) zero x h = omega arith
  within (z ∷ xs) (suc i) x h = (let more = within xs i x h in omega arith)

  -- what holds of each, by its place, holds of each once one is replaced
  pub set_each : (P : ℕ → X → Type 0) (xs : List X) (i : ℕ) (y : X) → P i y → ((j : ℕ) (z : X) → slice_get xs j ≡ Some z → P j z) → (j : ℕ) (z : X) → slice_get (set xs i y) j ≡ Some z → P j z
  set_each P [] i y new old j z h = cc
  set_each P (x ∷ xs) zero y new old zero z h = (let same : y ≡ z = cc in subst (P 0) same new)
  set_each P (x ∷ xs) zero y new old (suc j) z h = old (suc j) z h
  set_each P (x ∷ xs) (suc i) y new old zero z h = old zero z h
  set_each P (x ∷ xs) (suc i) y new old (suc j) z h = set_each (λ k. P (suc k)) xs i y new (λ k w g. old (suc k) w g) j z h

  -- where one is replaced, what holds of it and of each other
  pub set_others : (P : ℕ → X → Type 0) (xs : List X) (i : ℕ) (y : X) → P i y → ((j : ℕ) (z : X) → slice_get xs j ≡ Some z → (j ≡ i → ⊥) → P j z) → (j : ℕ) (z : X) → slice_get (set xs i y) j ≡ Some z → P j z
  set_others P [] i y new old j z h = cc
  set_others P (x ∷ xs) zero y new old zero z h = (let same : y ≡ z = cc in subst (P 0) same new)
  set_others P (x ∷ xs) zero y new old (suc j) z h = old (suc j) z h (λ e. omega (arith, e))
  set_others P (x ∷ xs) (suc i) y new old zero z h = old zero z h (λ e. omega (arith, e))
  set_others P (x ∷ xs) (suc i) y new old (suc j) z h = set_others (λ k. P (suc k)) xs i y new (λ k w g other. old (suc k) w g (λ e. other (omega (arith, e)))) j z h

  pub get_set : (xs : List X) (i : ℕ) (x y : X) → slice_get xs i ≡ Some x → slice_get (set xs i y) i ≡ Some y
  get_set [] i x y h = cc
  get_set (z ∷ xs) zero x y h = refl
  get_set (z ∷ xs) (suc i) x y h = get_set xs i x y h

  pub map_set : {Y : Type 0} (f : X → Y) (xs : List X) (i : ℕ) (y : X) → set (map f xs) i (f y) ≡ map f (set xs i y)
  map_set f [] i y = refl
  map_set f (x ∷ xs) zero y = refl
  map_set f (x ∷ xs) (suc i) y = ap (λ ys. f x ∷ ys) (map_set f xs i y)

  pub map_get : {Y : Type 0} (f : X → Y) (xs : List X) (i : ℕ) (y : Y) → slice_get (map f xs) i ≡ Some y → (x : X) × (slice_get xs i ≡ Some x) × (f x ≡ y)
  map_get f [] i y h = cc
  map_get f (x ∷ xs) zero y h = (x, refl, cc)
  map_get f (x ∷ xs) (suc i) y h = map_get f xs i y h

  -- what stands in a list with one more behind stood there, or is that one
  pub get_snoc : (xs : List X) (y : X) (i : ℕ) (z : X) → slice_get (xs ++ y ∷ []) i ≡ Some z → (slice_get xs i ≡ Some z) ⊎ ((i ≡ length xs) × (z ≡ y))
  get_snoc [] y zero z h = (let same : z ≡ y = cc in inr (refl, same))
  get_snoc [] y (suc i) z h = cc
  get_snoc (x ∷ xs) y zero z h = inl h
  get_snoc (x ∷ xs) y (suc i) z h = elim (get_snoc xs y i z h) [ inl k ↦ inl k | inr k ↦ inr (ap suc k.0, k.1) ]

  take_front : (xs ys : List X) → take (length xs) (xs ++ ys) ≡ xs
  take_front [] ys = refl
  take_front (x ∷ xs) ys = ap (λ zs. x ∷ zs) (take_front xs ys)

  -- a list whose every element was written
  pub rewritten : (n : ℕ) (xs ys : List X) → length xs ≡ n → take n (xs ++ ys) ≡ xs
  rewritten n xs ys h = subst (λ k. take k (xs ++ ys) ≡ xs) h (take_front xs ys)

  -- nothing is beyond it
  pub beyond : {Y : Type 0} (f : X → Y) (xs : List X) (i : ℕ) → length xs ≤ i → slice_get (map f xs) i ≡ None
  beyond f [] i le = refl
  beyond f (x ∷ xs) zero le = absurd (omega arith)
  beyond f (x ∷ xs) (suc i) le = beyond f xs i (omega arith)

  -- what stands last is behind the others
  last_at : (xs : List X) (n : ℕ) (y : X) → length xs ≡ suc n → slice_get xs n ≡ Some y → xs ≡ take n xs ++ y ∷ []
  last_at [] n y l h = absurd (omega arith)
  last_at (x ∷ []) zero y l h = (let same : x ≡ y = cc in ap (λ z. z ∷ []) same)
  last_at (x ∷ z ∷ xs) zero y l h = absurd (omega arith)
  last_at (x ∷ xs) (suc n) y l h = ap (λ zs. x ∷ zs) (last_at xs n y (omega arith) h)

  pub last_is : (xs : List X) (y : X) → slice_get xs (length xs - 1) ≡ Some y → xs ≡ take (length xs - 1) xs ++ y ∷ []
  last_is xs y h = last_at xs (length xs - 1) y (let some = within xs (length xs - 1) y h in omega arith) h

  pub all_indexed : (P Q : X → Type 0) (xs : List X) → ((i : ℕ) (x : X) → slice_get xs i ≡ Some x → P x → Q x) → AllByRecursion P xs → AllByRecursion Q xs
  all_indexed P Q [] f h = tt
  all_indexed P Q (x ∷ xs) f h = (f 0 x refl h.0, all_indexed P Q xs (λ i z at p. f (suc i) z at p) h.1)

  pub get_seam : (xs : List X) (y : X) (ys : List X) → slice_get (xs ++ y ∷ ys) (length xs) ≡ Some y
  get_seam [] y ys = refl
  get_seam (x ∷ xs) y ys = get_seam xs y ys

  pub remove_seam : (xs : List X) (y : X) → remove (xs ++ y ∷ []) (length xs) ≡ xs
  remove_seam [] y = refl
  remove_seam (x ∷ xs) y = ap (λ zs. x ∷ zs) (remove_seam xs y)

  pub set_seam : (xs : List X) (y z : X) (ys : List X) → set (xs ++ y ∷ ys) (length xs) z ≡ xs ++ z ∷ ys
  set_seam [] y z ys = refl
  set_seam (x ∷ xs) y z ys = ap (λ zs. x ∷ zs) (set_seam xs y z ys)

  -- a list that stands between others: what is there
  get_front : (xs back : List X) (i : ℕ) (x : X) → slice_get xs i ≡ Some x → slice_get (xs ++ back) i ≡ Some x
  get_front [] back i y h = cc
  get_front (x ∷ xs) back zero y h = h
  get_front (x ∷ xs) back (suc i) y h = get_front xs back i y h

  get_between : (front xs back : List X) (i n : ℕ) (x : X) → n ≡ length front + i → slice_get xs i ≡ Some x → slice_get (front ++ xs ++ back) n ≡ Some x
  get_between [] xs back i n y is h = (let same : n ≡ i = omega arith in subst (λ k. slice_get (xs ++ back) k ≡ Some y) (sym same) (get_front xs back i y h))
  get_between (z ∷ front) xs back i zero y is h = absurd (omega arith)
  get_between (z ∷ front) xs back i (suc n) y is h = get_between front xs back i n y (omega arith) h

  pub get_among : (front xs back : List X) (i : ℕ) (x : X) → slice_get xs i ≡ Some x → slice_get (front ++ xs ++ back) (length front + i) ≡ Some x
  get_among front xs back i x h = get_between front xs back i (length front + i) x refl h

  -- and one of it replaced
  set_front : (xs back : List X) (i : ℕ) (y : X) → i < length xs → set (xs ++ back) i y ≡ set xs i y ++ back
  set_front [] back i y l = absurd (omega arith)
  set_front (x ∷ xs) back zero y l = refl
  set_front (x ∷ xs) back (suc i) y l = ap (λ zs. x ∷ zs) (set_front xs back i y (omega arith))

  set_between : (front xs back : List X) (i n : ℕ) (y : X) → n ≡ length front + i → i < length xs → set (front ++ xs ++ back) n y ≡ front ++ set xs i y ++ back
  set_between [] xs back i n y is l = (let same : n ≡ i = omega arith in subst (λ k. set (xs ++ back) k y ≡ set xs i y ++ back) (sym same) (set_front xs back i y l))
  set_between (z ∷ front) xs back i zero y is l = absurd (omega arith)
  set_between (z ∷ front) xs back i (suc n) y is l = ap (λ zs. z ∷ zs) (set_between front xs back i n y (omega arith) l)

  pub set_among : (front xs back : List X) (i : ℕ) (y : X) → i < length xs → set (front ++ xs ++ back) (length front + i) y ≡ front ++ set xs i y ++ back
  set_among front xs back i y l = set_between front xs back i (length front + i) y refl l

  -- what is left of a list that has a last element, without that
  pub popped : (xs ys : List X) (r : Option X) (n : ℕ) (x : X) → xs ≡ ys ++ option_to_list r → (IsSome r ↔ (0 < n)) → ys ≡ take (n - 1) xs → slice_get xs (length xs - 1) ≡ Some x → ys ≡ take (length xs - 1) xs
  popped xs ys (Some y) n x items some rest last =
      let len : length xs ≡ length ys + 1 = ap length items ∙ length-append ys (y ∷ []) in
      sym (subst (λ zs. take (length xs - 1) zs ≡ ys) (sym items) (rewritten (length xs - 1) ys (y ∷ []) (omega arith)))
  popped xs ys None n x items some rest last = elim (cases_lt 0 n) [
    | inl l ↦ (let told = some.1 l in cc)
    | inr le ↦
        let first : n - 1 ≡ 0 = omega arith in
        let none : ys ≡ [] = subst (λ k. ys ≡ take k xs) first rest in
        let empty : xs ≡ [] = items ∙ ap (λ zs. zs ++ []) none in
        let at = subst (λ (zs : List X). slice_get zs (length zs - 1) ≡ Some x) empty last in
        let l = within [] (length {A = X} [] - 1) x at in
        absurd (omega arith)
  ]

  -- one is replaced twice
  pub set_twice : (xs : List X) (i : ℕ) (y z : X) → set (set xs i y) i z ≡ set xs i z
  set_twice [] i y z = refl
  set_twice (x ∷ xs) zero y z = refl
  set_twice (x ∷ xs) (suc i) y z = ap (λ zs. x ∷ zs) (set_twice xs i y z)

  -- or by what stood there
  pub set_same : (xs : List X) (i : ℕ) (x : X) → slice_get xs i ≡ Some x → set xs i x ≡ xs
  set_same [] i x h = refl
  set_same (z ∷ xs) zero x h = (let same : z ≡ x = cc in ap (λ y. y ∷ xs) (sym same))
  set_same (z ∷ xs) (suc i) x h = ap (λ zs. z ∷ zs) (set_same xs i x h)
