-- A fold that is done item by item.
use Rattle.std.proofs.Common.{◌≡◌, ℕ, suc, ◌+◌, ◌<◌, List, drop, drop-cons, fold, get_or, length, max, nat_cmp, ap, sym, ◌∙◌, arith}
use Rattle.std.specs.Ordering.{ord_max}
use Rattle.std.proofs.Math.Seq.{drop-length}

-- one item more, from that of the index on
pub fold_step : {A B : Type 0} (f : B → A → B) (b : B) (xs : List A) (i : ℕ) (d : A) → i < length xs → fold f (f b (get_or xs i d)) (drop (i + 1) xs) ≡ fold f b (drop i xs)
fold_step f b xs i d within = ap (λ k. fold f (f b (get_or xs i d)) (drop k xs)) (add_one i) ∙ ap (fold f b) (sym (drop-cons xs i d within)) where
  add_one : (i : ℕ) → i + 1 ≡ suc i
  add_one i = omega arith

-- no item is left
pub fold_over : {A B : Type 0} (f : B → A → B) (b : B) (xs : List A) (i : ℕ) → i ≡ length xs → fold f b (drop i xs) ≡ b
fold_over f b xs i is = ap (λ k. fold f b (drop k xs)) is ∙ ap (fold f b) (drop-length xs)

pub max_is : (a b : ℕ) → ord_max nat_cmp a b ≡ max a b
max_is a b = grind arith
