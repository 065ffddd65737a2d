-- Where all paths stand in one list there is no dispute wheel.
use Rattle.std.proofs.Common.{◌≡◌, ℕ, ◌<◌, ◌≤◌, ◌==◌, true, List, [], ◌∷◌, ◌++◌, sym, subst, inl, inr, arith}
use Rattle.std.specs.List.{All}
use Rattle.std.proofs.lemmas.Bool.{cases_Bool, eqb-true, false≢true}
use Rattle.tw_event.specs.declared.event.PathNo.{PathNo}
use Rattle.tw_model.specs.Net.{Net, path}
use Rattle.tw_model.specs.State.{State}
use Rattle.tw_sim.proofs.Members.{In, in_from_all, in_from_any}
use Rattle.tw_policy.proofs.Lists.{same_number}
use Rattle.tw_policy.specs.OneList.{Ascends, IsOneList}
use Rattle.tw_policy.specs.DisputeWheel.{AreDisputed, IsDisputed, IsDisputeWheel, LeadsTo, Pivot, hop, hops, is_among, is_no_worse}

pub among_in : (p : PathNo) (order : List PathNo) → is_among p order ≡ true → In p order
among_in p order h = let found = in_from_any (λ q. p.0 == q.0) order h in subst (λ z. In z order) (sym (same_number p found.0 (eqb-true p.0 (found.0).0 found.1))) found.2

module _ (net : Net) (states : ℕ → State) (place : PathNo → ℕ) (is : IsOneList net states place) where
  goes_on : (v : ℕ) (p r : PathNo) → is_among p (states v).order ≡ true → path net p ≡ v ∷ path net r → place r < place p
  goes_on v p r there on =
      in_from_all (λ q. (r : PathNo) → path net q ≡ v ∷ path net r → place r < place q) (states v).order (is.goes_on v) p (among_in p (states v).order there) r on

  leads : (p q : PathNo) → LeadsTo net states p q → place q < place p
  leads _ _ (hop v p q there on) = goes_on v p q there on
  leads _ _ (hops v p r q there on more) = let first = goes_on v p r there on in let others = leads r q more in omega arith

  no_worse : (p q : PathNo) (order : List PathNo) → Ascends place order → is_no_worse p q order ≡ true → place p ≤ place q
  no_worse p q [] up h = absurd (false≢true h)
  no_worse p q (x ∷ order) up h =
      elim (cases_Bool (p.0 == x.0)) [
        | inr b ↦ no_worse p q order up.1 (rw b at h)
        | inl b ↦ (
            let same : p ≡ x = same_number p x (eqb-true p.0 x.0 b) in
            let there : In q (x ∷ order) = among_in q (x ∷ order) (rw b at h) in
            subst (λ z. place z ≤ place q) (sym same) (behind there up.0))
      ] where
        behind : In q (x ∷ order) → All (λ z. place x < place z) order → place x ≤ place q
        behind (inl e) all = subst (λ z. place x ≤ place z) (sym e) (omega arith)
        behind (inr k) all = let below = in_from_all (λ z. place x < place z) order all q k in omega arith

  disputed : (a b : Pivot) → IsDisputed net states a b → place b.spoke < place a.spoke
  disputed a b d = grind (arith, no_worse, leads)

  ring : (a : Pivot) (others : List Pivot) (b : Pivot) → AreDisputed net states a (others ++ b ∷ []) → place b.spoke < place a.spoke
  ring a [] b are = disputed a b are.0
  ring a (x ∷ others) b are = let first = disputed a x are.0 in let more = ring x others b are.1 in omega arith

  pub no_wheel : (a : Pivot) (others : List Pivot) → IsDisputeWheel net states a others → ⊥
  no_wheel a others wheel = let round = ring a others a wheel in omega arith
