-- A row, two places of the order or a bar, written and written back.
use Rattle.std.proofs.Common.{◌≡◌, ℕ, ◌-◌, ◌<◌, Bool, false, List, length, get_or, set, set-set, get_or-set_same, sym, ap, ◌∙◌, refl, subst, inl, inr}
use Rattle.std.proofs.lemmas.List.{set-get_or, same_lists}
use Rattle.std.proofs.lemmas.List.Edits.{swapped_from_swap, length-swap}
use Rattle.std.proofs.lemmas.Bool.{cases_eq}
use Rattle.std.specs.List.{swap}
use Rattle.tw_model.specs.declared.state.Row.{Row}
use Rattle.tw_model.specs.State.{State, is_barred, no_row, row}
use Rattle.tw_model.specs.Effect.{with_bar, with_swap, with_row}

-- a second write at a place undoes the first where it writes what stood there
pub set-back : {X : Type 0} (xs : List X) (k : ℕ) (x y d : X) → y ≡ get_or xs k d → set (set xs k x) k y ≡ xs
set-back xs k x y d e = set-set xs k x y ∙ (ap (set xs k) e ∙ set-get_or xs k d)

-- two places that changed places twice
swap-at : {X : Type 0} (xs : List X) (i j k : ℕ) (d : X) → i < length xs → j < length xs → get_or (swap (swap xs i j) i j) k d ≡ get_or xs k d
swap-at xs i j k d hi hj =
    let n = length-swap xs i j in
    let p = swapped_from_swap xs (swap xs i j) i j d hi hj refl in
    let q = swapped_from_swap (swap xs i j) (swap (swap xs i j) i j) i j d (subst (λ m. i < m) (sym n) hi) (subst (λ m. j < m) (sym n) hj) refl in
    elim (cases_eq k i) [
      | inl e ↦ subst (λ m. get_or (swap (swap xs i j) i j) m d ≡ get_or xs m d) (sym e) (q.0 ∙ p.1)
      | inr ne ↦ elim (cases_eq k j) [
        | inl e ↦ subst (λ m. get_or (swap (swap xs i j) i j) m d ≡ get_or xs m d) (sym e) (q.1 ∙ p.0)
        | inr nf ↦ q.2 k ne nf ∙ p.2 k ne nf
      ]
    ]

pub swap-swap : {X : Type 0} (xs : List X) (i j : ℕ) → i < length xs → j < length xs → swap (swap xs i j) i j ≡ xs
swap-swap xs i j hi hj =
    same_lists _ _ (length-swap (swap xs i j) i j ∙ length-swap xs i j) (λ k d h. swap-at xs i j k d hi hj)

-- a row written and written back
pub back-row : (s : State) (k : ℕ) (x y : Row) → y ≡ row s k → with_row (with_row s k x) k y ≡ s
back-row s k x y e = ap (λ rows. record s { rows = rows }) (set-back s.rows k x y no_row e)

pub row-with_row : (s : State) (k : ℕ) (x : Row) → k < length s.rows → row (with_row s k x) k ≡ x
row-with_row s k x h = get_or-set_same s.rows k x no_row h

-- two places of the order changed and changed back
pub with_swap-with_swap : (s : State) (i j : ℕ) → i - 1 < length s.order → j - 1 < length s.order → with_swap (with_swap s i j) i j ≡ s
with_swap-with_swap s i j hi hj = ap (λ order. record s { order = order }) (swap-swap s.order (i - 1) (j - 1) hi hj)

-- a bar written and written back
pub with_bar-with_bar : (s : State) (k : ℕ) (b kept : Bool) → kept ≡ is_barred s k → with_bar (with_bar s k b) k kept ≡ s
with_bar-with_bar s k b kept is = ap (λ barred. record s { barred = barred }) (set-back s.barred (k - 1) b kept false is)
