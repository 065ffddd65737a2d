-- A router with one path alone in its list.
use Rattle.std.proofs.Common.{◌≡◌, ℕ, ◌<◌, List, [], ◌∷◌, length, ap, sym, ◌∙◌, subst, inl, inr}
use Rattle.std.proofs.lemmas.Bool.{cases_eq, eq-eqb, ne_eqb}
use Rattle.std.proofs.lemmas.List.{get_or-set_other, get_or-set_same, length-set}
use Rattle.tw_event.specs.declared.event.PathNo.{PathNo}
use Rattle.tw_sim.proofs.Members.{In}
use Rattle.tw_policy.specs.Search.{only_at}
use Rattle.tw_elimination.specs.Narrowing.{list_at}
use Rattle.tw_stable.specs.Splitting.{with_only}

pub only_there : (lists : List (List PathNo)) (v : ℕ) (q : PathNo) → v < length lists → list_at (with_only lists v q) v ≡ q ∷ []
only_there lists v q here = get_or-set_same lists v (q ∷ []) [] here

pub only_else : (lists : List (List PathNo)) (v : ℕ) (q : PathNo) (w : ℕ) → (w ≡ v → ⊥) → list_at (with_only lists v q) w ≡ list_at lists w
only_else lists v q w apart = get_or-set_other lists v w (q ∷ []) [] apart

pub only_is : (lists : List (List PathNo)) (v : ℕ) (q : PathNo) → v < length lists → (w : ℕ) → list_at (with_only lists v q) w ≡ only_at (list_at lists) v q w
only_is lists v q here w =
    elim (cases_eq w v) [
      | inl e ↦ rw (eq-eqb w v e) (ap (list_at (with_only lists v q)) e ∙ only_there lists v q here)
      | inr apart ↦ rw (ne_eqb w v apart) (only_else lists v q w apart)
    ]

pub only_long : (lists : List (List PathNo)) (v : ℕ) (q : PathNo) → length (with_only lists v q) ≡ length lists
only_long lists v q = length-set lists v (q ∷ [])

pub only_among : (lists : List (List PathNo)) (v : ℕ) → v < length lists → (q : PathNo) → In q (list_at lists v) → (w : ℕ) (p : PathNo)
    → In p (list_at (with_only lists v q) w) → In p (list_at lists w)
only_among lists v here q i w p k =
    elim (cases_eq w v) [
      | inl e ↦ (
          let one : In p (q ∷ []) = subst (In p) (ap (list_at (with_only lists v q)) e ∙ only_there lists v q here) k in
          elim one [ inl same ↦ subst (λ z. In p (list_at lists z)) (sym e) (subst (λ z. In z (list_at lists v)) (sym same) i) | inr never ↦ absurd never ])
      | inr apart ↦ subst (In p) (only_else lists v q w apart) k
    ]
