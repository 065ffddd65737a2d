-- The places of the paths that extend another one.
use Rattle.std.proofs.Common.{◌≡◌, ℕ, ◌+◌, ◌<◌, true, List, [], ◌∷◌, ◌++◌, length, get_or, refl, ap, sym, ◌∙◌, subst, inl, inr, arith}
use Rattle.std.proofs.lemmas.Bool.{cases_lt, eq-eqb}
use Rattle.std.proofs.lemmas.List.{get_or_append_left, get_or_default, get_or_push, length_push}
use Rattle.tw_event.specs.declared.event.PathNo.{PathNo}
use Rattle.tw_model.specs.Net.{Net, begins_at, is_own, path}
use Rattle.tw_instance.specs.Extensions.{IsExtendedAt, IsPlaceOf}

-- ---- made one by one

pub record AreFirstPlaces (net : Net) (numbers : List PathNo) (k : ℕ) (places : List ℕ) : Type 0 where
  pub long : length places ≡ k
  pub each : (i : ℕ) (d : PathNo) → i < k → IsPlaceOf net (get_or numbers i d) (get_or places i 0)

pub places_push : (net : Net) (numbers : List PathNo) (k : ℕ) (places : List ℕ) (place : ℕ) (x : PathNo) → AreFirstPlaces net numbers k places → k < length numbers
    → IsPlaceOf net (get_or numbers k x) place → AreFirstPlaces net numbers (k + 1) (places ++ place ∷ [])
places_push net numbers k places place x so low here = record {
  long = let n = so.long in let m = length_push places place in omega arith;
  each = λ i d h. elim (cases_lt i k) [
    | inl below ↦ subst (IsPlaceOf net (get_or numbers i d)) (sym (get_or_append_left places (place ∷ []) 0 i (let n = so.long in omega arith))) (so.each i d below)
    | inr at ↦ (
        let e : i ≡ k = omega arith in
        let same : get_or numbers k x ≡ get_or numbers i d = get_or_default numbers k x d low ∙ ap (λ n. get_or numbers n d) (sym e) in
        subst (λ q. IsPlaceOf net q (get_or (places ++ place ∷ []) i 0)) same
        (subst (IsPlaceOf net (get_or numbers k x)) (sym (get_or_push places place 0 i (let n = so.long in omega arith))) here))
  ];
}

-- ---- looked up

-- what is v followed by a path is permitted at v
own_of : (net : Net) (v : ℕ) (q : PathNo) (p : List ℕ) → path net q ≡ v ∷ p → is_own net v q ≡ true
own_of net v q p e = ap (λ ns. begins_at ns v) e ∙ eq-eqb v v refl

pub extended_at : (net : Net) (v : ℕ) (q p : PathNo) (k : ℕ) → IsPlaceOf net q k → path net q ≡ v ∷ path net p → IsExtendedAt net v p k
extended_at net v q p k place e = (q, place v (own_of net v q (path net p) e), e)
