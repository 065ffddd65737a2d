-- Items that pass a test are put behind others, one by one.
use Rattle.std.proofs.Common.{arith, ℕ, ◌+◌, ◌≡◌, ◌<◌, ◌≤◌, Bool, true, false, cond, List, [], ◌∷◌, ◌++◌, append_assoc, append-nil, drop, filter, length, get_or, vec_len, vec_capacity, ap, sym, ◌∙◌}
use Rattle.std.proofs.lemmas.List.{drop_all, drop_more}
use Rattle.std.specs.declared.vec.Vec.{Vec}

module _ {X : Type 0} (p : X → Bool) where
  -- what is left to copy, where the next item passes, and where it does not
  next_passes : (xs : List X) (i : ℕ) (d m : X) → i < length xs → m ≡ get_or xs i d → p m ≡ true → filter p (drop i xs) ≡ m ∷ filter p (drop (i + 1) xs)
  next_passes xs i d m h is pass =
      let rest = drop (i + 1) xs in
      ap (filter p) (drop_more xs i d h) ∙ (ap (λ x. filter p (x ∷ rest)) (sym is) ∙ ap (λ b. cond b (m ∷ filter p rest) (filter p rest)) pass)

  next_fails : (xs : List X) (i : ℕ) (d m : X) → i < length xs → m ≡ get_or xs i d → p m ≡ false → filter p (drop i xs) ≡ filter p (drop (i + 1) xs)
  next_fails xs i d m h is fail =
      let rest = drop (i + 1) xs in
      ap (filter p) (drop_more xs i d h) ∙ (ap (λ x. filter p (x ∷ rest)) (sym is) ∙ ap (λ b. cond b (m ∷ filter p rest) (filter p rest)) fail)

module _ {X Z : Type 0} (p : X → Bool) where
  -- those of the first i items that pass stand behind the old ones, and there is room for the others that do
  pub record IsCopying (old xs : List X) (i : ℕ) (to : Vec X Z) : Type 0 where
    pub copied : to.items ++ filter p (drop i xs) ≡ old ++ filter p xs
    pub room : vec_len to + length (filter p (drop i xs)) ≤ vec_capacity to

  pub has_room : (old xs : List X) (i : ℕ) (to : Vec X Z) (d m : X) → IsCopying old xs i to → i < length xs → m ≡ get_or xs i d → p m ≡ true → vec_len to < vec_capacity to
  has_room old xs i to d m so h is pass =
      let left = ap length (next_passes p xs i d m h is pass) in
      let room = so.room in
      omega arith

  pub copies_one : (old xs : List X) (i : ℕ) (to more : Vec X Z) (d m : X) → IsCopying old xs i to → i < length xs → m ≡ get_or xs i d → p m ≡ true
      → more.items ≡ to.items ++ m ∷ [] → vec_len more ≡ vec_len to + 1 → vec_capacity more ≡ vec_capacity to → IsCopying old xs (i + 1) more
  copies_one old xs i to more d m so h is pass put longer same =
      let rest = filter p (drop (i + 1) xs) in
      let next = next_passes p xs i d m h is pass in
      let left = ap length next in
      let room = so.room in
      record {
        copied = ap (λ ys. ys ++ rest) put ∙ (append_assoc to.items (m ∷ []) rest ∙ (ap (λ ys. to.items ++ ys) (sym next) ∙ so.copied));
        room = omega arith;
      }

  pub copies_none : (old xs : List X) (i : ℕ) (to : Vec X Z) (d m : X) → IsCopying old xs i to → i < length xs → m ≡ get_or xs i d → p m ≡ false → IsCopying old xs (i + 1) to
  copies_none old xs i to d m so h is fail =
      let next = next_fails p xs i d m h is fail in
      let left = ap length next in
      let room = so.room in
      record { copied = ap (λ ys. to.items ++ ys) (sym next) ∙ so.copied; room = omega arith }

  pub all_copied : (old xs : List X) (i : ℕ) (to : Vec X Z) → IsCopying old xs i to → length xs ≤ i → to.items ≡ old ++ filter p xs
  all_copied old xs i to so end = sym (append-nil to.items) ∙ (ap (λ ys. to.items ++ filter p ys) (sym (drop_all i xs end)) ∙ so.copied)
