-- Words that may follow a keyword.
use Rattle.std.proofs.Common.{◌≡◌, ◌==◌, ℕ, Bool, true, not, ◌||◌, List, [], ◌∷◌, length, map, refl, ap, sym, ◌∙◌}
use Rattle.std.proofs.lemmas.List.{length-map}
use Rattle.std.specs.Borrow.{Bor}
use Rattle.std.specs.List.{list_any}
use Rattle.tw_text.specs.declared.keyword.Keyword.{Keyword}
use Rattle.tw_text.specs.Statements.{takes, takes_words}

any-now : (ws : List (Bor (List ℕ))) → list_any (λ w. length w == 0) (map (λ w. w.now) ws) ≡ list_any (λ w. length w.now == 0) ws
any-now [] = refl
any-now (w ∷ ws) = ap (λ b. (length w.now == 0) || b) (any-now ws)

pub takes_words-now : (k : Keyword) (ws : List (Bor (List ℕ))) (taken empty : Bool) → taken ≡ takes k (length ws) → taken ≡ true → empty ≡ list_any (λ w. length w.now == 0) ws
    → takes_words k (map (λ w. w.now) ws) ≡ not empty
takes_words-now k ws taken empty count yes' e =
    let t : takes k (length ws) ≡ true = sym count ∙ yes' in
    rw (length-map ws (λ w. w.now), any-now ws, t, e) refl
