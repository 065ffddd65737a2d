-- Orders of neighbours.
use Rattle.std.proofs.Common.{◌≡◌, ◌≢◌, ℕ, ◌<◌, List, [], length, get_or, set, ap, subst, sym, ◌∙◌, inl, inr, replicate, refl}
use Rattle.std.proofs.lemmas.Bool.{cases_eq, cases_lt}
use Rattle.std.proofs.lemmas.List.{get_or-replicate, get_or-set_other, get_or-set_same, get_or_past, length-replicate}
use Rattle.tw_instance.specs.Orders.{StandAsIn, StandsAt}
use Rattle.tw_instance.specs.declared.peers.TheConstants.{NOBODY}

-- an order with one more number of the row
pub order_with : (row order : List ℕ) (place new : ℕ) → place < length order → StandAsIn row order → StandsAt row new place → StandAsIn row (set order place new)
order_with row order place new low all is at there =
    elim (cases_eq at place) [
      | inl here ↦ (
          let e = ap (λ k. get_or (set order place new) k NOBODY) here ∙ get_or-set_same order place new NOBODY low in
          subst (λ n. StandsAt row n at) (sym e) (subst (StandsAt row new) (sym here) is))
      | inr ne ↦ (
          let e = get_or-set_other order place at new NOBODY ne in
          subst (λ n. StandsAt row n at) (sym e) (all at (subst (λ n. n ≢ NOBODY) e there)))
    ]

-- where nobody stands, the order is one of any row
pub no_order : (row : List ℕ) (n : ℕ) → StandAsIn row (replicate n NOBODY)
no_order row n at there =
    elim (cases_lt at n) [
      | inl low ↦ absurd (there (get_or-replicate n at NOBODY NOBODY low))
      | inr past ↦ absurd (there (get_or_past (replicate n NOBODY) at NOBODY (rw (length-replicate n NOBODY) past)))
    ]
