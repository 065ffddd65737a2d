-- Where all paths stand in one list, elimination leaves no choice.
use Rattle.std.proofs.Common.{◌≡◌, ℕ, suc, zero, ◌<◌, ◌≤◌, ◌==◌, Bool, true, false, not, List, [], ◌∷◌, Option, Some, None, refl, ap, sym, ◌∙◌, subst, ◌⊎◌, inl, inr, arith}
use Rattle.std.specs.List.{find}
use Rattle.std.specs.Option.{unwrap_or}
use Rattle.std.proofs.lemmas.Bool.{cases_Bool, both_ways, and_parts, false≢true, eqb-true, not-true}
use Rattle.tw_event.specs.declared.event.PathNo.{PathNo}
use Rattle.tw_model.specs.Net.{Net, empty_path, origin_path, path, same_path}
use Rattle.tw_model.specs.State.{State, bars}
use Rattle.tw_model.specs.Quiet.{is_reached}
use Rattle.tw_model.proofs.Paths.{same_path_is}
use Rattle.tw_sim.proofs.Members.{In, in_find, in_from_all}
use Rattle.tw_policy.specs.Elimination.{IsSolvedIn, MayUse}
use Rattle.tw_policy.specs.Left.{allows, follows}
use Rattle.tw_policy.specs.OneList.{Ascends, IsOneList}
use Rattle.tw_policy.proofs.Lists.{same_number}
use Rattle.tw_policy.proofs.Left.{reached_by, reached_from}

some_of : (o : Option PathNo) (p : PathNo) → unwrap_or o empty_path ≡ p → (p.0 == 0) ≡ false → o ≡ Some p
some_of None p e some = absurd (false≢true (sym some ∙ ap (λ z. z.0 == 0) (sym e)))
some_of (Some x) p e some = ap Some e

module _ (place : PathNo → ℕ) (f g : PathNo → Bool) where
  -- a path at which the two tests differ, placed no later than p
  record IsApart (order : List PathNo) (p : PathNo) : Type 0 where
    pub x : PathNo
    pub there : In x order
    pub soon : place x ≤ place p
    pub apart : ((f x ≡ true) × (g x ≡ false)) ⊎ ((f x ≡ false) × (g x ≡ true))

  later_apart : (y : PathNo) (order : List PathNo) (p : PathNo) → IsApart order p → IsApart (y ∷ order) p
  later_apart y order p is = record { x = is.x; there = inr is.there; soon = is.soon; apart = is.apart }

  -- what one test finds first the other does too, or they differ before
  same_or_apart : (order : List PathNo) → Ascends place order → (p : PathNo) → find f order ≡ Some p → (find g order ≡ Some p) ⊎ IsApart order p
  same_or_apart [] up p found = absurd (cc)
  same_or_apart (x ∷ order) up p found =
      elim (cases_Bool (f x)) [
        | inl a ↦ grind arith
        | inr a ↦ (
            let more : find f order ≡ Some p = rw a at found in
            elim (cases_Bool (g x)) [
              | inl b ↦ (
                  let below = in_from_all (λ q. place x < place q) order up.0 p (in_find f p order more).1 in
                  inr (record { x = x; there = inl refl; soon = omega arith; apart = inr (a, b) }))
              | inr b ↦ (
                  let other : find g (x ∷ order) ≡ find g order = rw b refl in
                  elim (same_or_apart order up.1 p more) [ inl e ↦ inl (other ∙ e) | inr d ↦ inr (later_apart x order p d) ])
            ])
      ]

module _ (net : Net) (states : ℕ → State) (place : PathNo → ℕ) (is : IsOneList net states place) where
  -- what two rounds leave alike as far as place n, they let reach alike what is placed no later
  reaches_too : (n v : ℕ) (one two : ℕ → PathNo) → ((w : ℕ) → ((one w).0 == 0) ≡ false → place (one w) < n → one w ≡ two w)
      → (x : PathNo) → In x (states v).order → place x ≤ n → is_reached net one v (states v) x ≡ true → is_reached net two v (states v) x ≡ true
  reaches_too n v one two same x there soon reached =
      let a = reached_by net states v one x reached in
      let w = a.hop_row.0.peer in
      let parts = and_parts (not (bars net v (states v).barred x)) (follows net states v x (one w)) a.allowed in
      let on = and_parts (not ((one w).0 == 0)) (same_path (path net x) (v ∷ path net (one w))) parts.1 in
      let before : place (one w) < place x
      = in_from_all (λ q. (r : PathNo) → path net q ≡ v ∷ path net r → place r < place q) (states v).order (is.goes_on v) x there (one w)
      (same_path_is (path net x) (v ∷ path net (one w)) on.1) in
      let alike = same w (not-true ((one w).0 == 0) on.0) (omega arith) in
      reached_from net states v two x (record { hop_row = a.hop_row; there = a.there; up = a.up; allowed = subst (λ r. allows net states v x r ≡ true) alike a.allowed })

  -- so many rounds leave no choice besides a path that is placed before that number
  settled : (n v : ℕ) (p q : PathNo) → (p.0 == 0) ≡ false → place p < n → MayUse net states n v p → MayUse net states n v q → p ≡ q
  settled zero v p q some soon first second = absurd (omega arith)
  settled (suc n) v p q some soon first second =
      let one = first.0 in
      let two = second.0 in
      let f = is_reached net one v (states v) in
      let g = is_reached net two v (states v) in
      let onward = λ (w : ℕ) (k : ((one w).0 == 0) ≡ false) (l : place (one w) < n). settled n w (one w) (two w) k l (first.1 w) (second.1 w) in
      let back = λ (w : ℕ) (k : ((two w).0 == 0) ≡ false) (l : place (two w) < n). settled n w (two w) (one w) k l (second.1 w) (first.1 w) in
      elim (cases_Bool (v == 0)) [
        | inl b ↦ (
            let mine : p ≡ origin_path = first.2 ∙ rw b refl in
            let others : q ≡ origin_path = second.2 ∙ rw b refl in
            mine ∙ sym others)
        | inr b ↦ (
            let mine : p ≡ unwrap_or (find f (states v).order) empty_path = first.2 ∙ rw b refl in
            let others : q ≡ unwrap_or (find g (states v).order) empty_path = second.2 ∙ rw b refl in
            elim (same_or_apart place f g (states v).order (is.ranks v) p (some_of (find f (states v).order) p (sym mine) some)) [
              | inl e ↦ sym (others ∙ ap (λ o. unwrap_or o empty_path) e)
              | inr d ↦ grind (arith, both_ways, reaches_too)
            ])
      ]

  pub solved : (n : ℕ) → ((q : PathNo) → place q < n) → IsSolvedIn net states n
  solved n all v here p q first second = grind (arith, cases_Bool, settled, same_number, eqb-true)
