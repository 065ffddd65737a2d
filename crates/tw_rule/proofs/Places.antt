-- Lists of places: sums over them, what holds of each, and one of them replaced.
use Rattle.std.proofs.Common.{◌≡◌, ℕ, zero, suc, ◌+◌, ◌<◌, List, [], ◌∷◌, map, Some, set, slice_get, refl, ap, ◌∙◌, subst, arith}
use Rattle.std.proofs.lemmas.Bool.{eq-eqb}
use Rattle.std.specs.List.{AllByRecursion}
use Rattle.tw_core.proofs.Sums.{all_both}
use Rattle.tw_core.specs.Parts.{total}
use Rattle.tw_rule.specs.Place.{Place}
use Rattle.tw_rule.specs.Rule.{is_at}

module _ {X : Type 0} where
  pub total_map : {Y : Type 0} (f : Y → ℕ) (g : X → Y) (xs : List X) → total f (map g xs) ≡ total (λ x. f (g x)) xs
  total_map f g [] = refl
  total_map f g (x ∷ xs) = ap (λ n. f (g x) + n) (total_map f g xs)

  pub all_in_map : {Y : Type 0} (P : Y → Type 0) (g : X → Y) (xs : List X) → AllByRecursion (λ x. P (g x)) xs → AllByRecursion P (map g xs)
  all_in_map P g [] h = tt
  all_in_map P g (x ∷ xs) h = (h.0, all_in_map P g xs h.1)

  pub get_map : {Y : Type 0} (g : X → Y) (xs : List X) (i : ℕ) (x : X) → slice_get xs i ≡ Some x → slice_get (map g xs) i ≡ Some (g x)
  get_map g [] i x h = cc
  get_map g (z ∷ xs) zero x h = (let same : z ≡ x = cc in ap (λ y. Some (g y)) same)
  get_map g (z ∷ xs) (suc i) x h = get_map g xs i x h

  -- what holds of each holds of one of them
  pub all_at : (P : X → Type 0) (xs : List X) (i : ℕ) (x : X) → slice_get xs i ≡ Some x → AllByRecursion P xs → P x
  all_at P [] i x h all = cc
  all_at P (z ∷ xs) zero x h all = (let same : z ≡ x = cc in subst P same all.0)
  all_at P (z ∷ xs) (suc i) x h all = all_at P xs i x h all.1

  -- a sum in which one term is another
  pub total_set : (f : X → ℕ) (xs : List X) (i : ℕ) (x y : X) → slice_get xs i ≡ Some x → total f (set xs i y) + f x ≡ total f xs + f y
  total_set f [] i x y h = cc
  total_set f (z ∷ xs) zero x y h = (let same : z ≡ x = cc in let value : f z ≡ f x = ap f same in omega arith)
  total_set f (z ∷ xs) (suc i) x y h = (let more = total_set f xs i x y h in omega arith)

module _ {E : Type 0} (w : ℕ) where
  -- who is not at w is another worker's
  not_at : (p : Place E) → is_at w p ≡ 0 → p.worker ≡ w → ⊥
  not_at p h is = (let one : is_at w p ≡ 1 = rw (eq-eqb p.worker w is) refl in omega arith)

  pub none_at : (ps : List (Place E)) → total (is_at w) ps ≡ 0 → AllByRecursion (λ p. p.worker ≡ w → ⊥) ps
  none_at [] h = tt
  none_at (p ∷ ps) h = (not_at p (omega arith), none_at ps (omega arith))

  -- one place is worker w's
  pub some_at : (ps : List (Place E)) (i : ℕ) (p : Place E) → slice_get ps i ≡ Some p → p.worker ≡ w → 0 < total (is_at w) ps
  some_at [] i p h is = cc
  some_at (z ∷ ps) zero p h is = grind arith
  some_at (z ∷ ps) (suc i) p h is = (let more = some_at ps i p h is in omega arith)

  -- where just one is, what holds of all others and of the one that replaces it holds of each
  pub each_set : (P Q : Place E → Type 0) → ((z : Place E) → P z → (z.worker ≡ w → ⊥) → Q z) → (ps : List (Place E)) (i : ℕ) (p q : Place E) → slice_get ps i ≡ Some p → p.worker ≡ w
      → total (is_at w) ps ≡ 1 → Q q → AllByRecursion P ps → AllByRecursion Q (set ps i q)
  each_set P Q f [] i p q h is one new all = cc
  each_set P Q f (z ∷ ps) zero p q h is one new all =
      let same : z ≡ p = cc in
      let here : is_at w z ≡ 1 = rw (eq-eqb z.worker w (ap (λ y. y.worker) same ∙ is)) refl in
      (new, all_both (λ y. y.worker ≡ w → ⊥) P Q (λ y other old. f y old other) ps (none_at ps (omega arith)) all.1)
  each_set P Q f (z ∷ ps) (suc i) p q h is one new all =
      let there = some_at ps i p h is in
      (f z all.0 (not_at z (omega arith)), each_set P Q f ps i p q h is (omega arith) new all.1)
