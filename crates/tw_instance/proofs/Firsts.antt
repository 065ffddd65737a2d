-- The first extension of a row.
use Rattle.std.proofs.Common.{◌≡◌, ℕ, suc, ◌+◌, ◌-◌, ◌<◌, ◌≤◌, ◌==◌, Bool, true, List, ◌∷◌, Some, ap, arith, drop, get_or, length, refl, take, ◌∙◌}
use Rattle.std.specs.List.{position}
use Rattle.std.proofs.lemmas.Bool.{eq-eqb, lt-ltb}
use Rattle.std.proofs.lemmas.List.{drop_more}
use Rattle.tw_instance.specs.Sparse.{cut}
use Rattle.tw_instance.specs.declared.extensions.Extension.{Extension}

first_found : {X : Type 0} (f : X → Bool) (x : X) (xs : List X) → f x ≡ true → position f (x ∷ xs) ≡ Some 0
first_found f x xs is =
    let some : 0 < length (x ∷ xs) = omega arith in
    rw (is, lt-ltb 0 (length (x ∷ xs)) some) refl

-- in a row that is not empty, and begins with an extension at v, that one is the first at v
pub first_of_row : (starts : List ℕ) (r : ℕ) (xs : List Extension) (d : Extension) (v : ℕ)
    → get_or starts r 0 < get_or starts (r + 1) 0 → get_or starts (r + 1) 0 ≤ length xs → (get_or xs (get_or starts r 0) d).node ≡ v
    → position (λ e. e.node == v) (cut starts r xs) ≡ Some 0
first_of_row starts r xs d v up within is =
    let from = get_or starts r 0 in
    let long = get_or starts (r + 1) 0 - from in
    let x = get_or xs from d in
    let rest = drop (from + 1) xs in
    let some : long ≡ suc (long - 1) = omega arith in
    ap (λ l. position (λ e. e.node == v) (take long l)) (drop_more xs from d (omega arith))
    ∙ (ap (λ n. position (λ e. e.node == v) (take n (x ∷ rest))) some
    ∙ first_found (λ e. e.node == v) x (take (long - 1) rest) (eq-eqb x.node v is))
