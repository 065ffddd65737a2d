-- A walk over a list, from the front.
use Rattle.std.proofs.Common.{◌≡◌, ℕ, suc, ◌+◌, ◌<◌, ◌≤◌, List, [], ◌∷◌, ◌++◌, add-one, append_assoc, drop, drop-cons, get_or, length, map, ap, sym, ◌∙◌}
use Rattle.std.proofs.lemmas.List.{append-nil, drop_all}

-- the next of a list, and what is behind it
pub split : {X : Type 0} (xs : List X) (i : ℕ) (x : X) → i < length xs → x ≡ get_or xs i x → drop i xs ≡ x ∷ drop (i + 1) xs
split xs i x l is = drop-cons xs i x l ∙ (ap (λ y. y ∷ drop (suc i) xs) (sym is) ∙ ap (λ k. x ∷ drop k xs) (sym (add-one i)))

-- it goes behind what was made of those before it
pub pushed : {X Y : Type 0} (f : X → Y) (xs : List X) (i : ℕ) (x : X) → i < length xs → x ≡ get_or xs i x → (all before after : List Y) → after ≡ before ++ f x ∷ []
    → before ++ map f (drop i xs) ≡ all → after ++ map f (drop (i + 1) xs) ≡ all
pushed f xs i x l is all before after more told =
    ap (λ ys. ys ++ map f (drop (i + 1) xs)) more
    ∙ (append_assoc before (f x ∷ []) (map f (drop (i + 1) xs)) ∙ (ap (λ zs. before ++ map f zs) (sym (split xs i x l is)) ∙ told))

-- and in the end all is made
pub all_pushed : {X Y : Type 0} (f : X → Y) (xs : List X) (i : ℕ) → length xs ≤ i → (all before : List Y) → before ++ map f (drop i xs) ≡ all → before ≡ all
all_pushed f xs i le all before told = sym (append-nil before) ∙ (ap (λ zs. before ++ map f zs) (sym (drop_all i xs le)) ∙ told)
