-- The lists have all that elimination leaves.
use Rattle.std.proofs.Common.{◌≡◌, ℕ, suc, zero, ◌<◌, ◌==◌, true, false, not, ◌&&◌, List, [], ◌∷◌, ◌++◌, length, filter, refl, ap, sym, ◌∙◌, subst, inl, inr, arith}
use Rattle.std.specs.List.{find, list_any, zip}
use Rattle.std.specs.Option.{unwrap_or}
use Rattle.std.proofs.lemmas.Bool.{cases_Bool, both_ways, and_parts, and_from, eq-eqb}
use Rattle.tw_event.specs.declared.event.PathNo.{PathNo}
use Rattle.tw_model.specs.declared.net.Hop.{Hop}
use Rattle.tw_model.specs.declared.state.Row.{Row}
use Rattle.tw_model.specs.Net.{Net, empty_path, hops_of}
use Rattle.tw_model.specs.State.{State}
use Rattle.tw_model.specs.Quiet.{is_reached, stable_path}
use Rattle.tw_sim.proofs.Members.{In, any_from_in, in_append, in_from_any}
use Rattle.tw_policy.specs.Elimination.{IsSolvedIn, MayUse}
use Rattle.tw_policy.specs.Left.{allows, is_covered, is_given, left_after, remaining}
use Rattle.tw_policy.proofs.Lists.{all_in, found_in}

module _ (net : Net) (states : ℕ → State) where
  -- a neighbour whose link is up has a path that gives q
  pub record IsAllowed (v : ℕ) (ribs : ℕ → PathNo) (q : PathNo) : Type 0 where
    pub hop_row : Hop × Row
    pub there : In hop_row (zip (hops_of net v) (states v).rows)
    pub up : hop_row.1.up ≡ true
    pub allowed : allows net states v q (ribs hop_row.0.peer) ≡ true

  pub reached_from : (v : ℕ) (ribs : ℕ → PathNo) (q : PathNo) → IsAllowed v ribs q → is_reached net ribs v (states v) q ≡ true
  reached_from v ribs q is = grind (arith, and_parts, not, and_from, any_from_in)

  pub reached_by : (v : ℕ) (ribs : ℕ → PathNo) (q : PathNo) → is_reached net ribs v (states v) q ≡ true → IsAllowed v ribs q
  reached_by v ribs q h = grind (arith, not, and_parts, in_from_any, and_from)

  module _ (left : ℕ → List PathNo) (ribs : ℕ → PathNo) (within : (w : ℕ) → In (ribs w) (left w)) (v : ℕ) where
    -- where none of these is reached, no neighbour always gives one
    uncovered : (better : List PathNo) → ((y : PathNo) → In y better → is_reached net ribs v (states v) y ≡ false) → is_covered net states left v better ≡ false
    uncovered better never = grind (arith, cases_Bool, in_from_any, and_parts, all_in, reached_from, both_ways)

    given : (q : PathNo) → is_reached net ribs v (states v) q ≡ true → is_given net states left v q ≡ true
    given q reached =
        let is = reached_by v ribs q reached in
        let p = is.hop_row in
        any_from_in (λ o. o.1.up && list_any (allows net states v q) (left o.0.peer)) p (zip (hops_of net v) (states v).rows)
        (and_from p.1.up (list_any (allows net states v q) (left p.0.peer)) is.up
        (any_from_in (allows net states v q) (ribs p.0.peer) (left p.0.peer) is.allowed (within p.0.peer)))
        is.there

    -- the best path of an order is one of those that remain
    best_remains : (better order : List PathNo) → ((y : PathNo) → In y better → is_reached net ribs v (states v) y ≡ false)
        → In (unwrap_or (find (is_reached net ribs v (states v)) order) empty_path) (remaining net states left v better order)
    best_remains better [] never = rw (uncovered better never) (inl refl)
    best_remains better (q ∷ order) never =
        let test = is_given net states left v q && not (is_covered net states left v better) in
        elim (cases_Bool (is_reached net ribs v (states v) q)) [
          | inl b ↦ grind (arith, given, uncovered)
          | inr b ↦ (
              let more : In (unwrap_or (find (is_reached net ribs v (states v)) order) empty_path) (remaining net states left v (better ++ q ∷ []) order)
              = best_remains (better ++ q ∷ []) order (λ y k. elim (in_append y better (q ∷ []) k) [
                | inl i ↦ never y i
                | inr i ↦ elim i [ inl e ↦ subst (λ z. is_reached net ribs v (states v) z ≡ false) (sym e) b | inr none ↦ absurd none ]
              ]) in
              let later : find (is_reached net ribs v (states v)) (q ∷ order) ≡ find (is_reached net ribs v (states v)) order = rw b refl in
              subst (λ o. In (unwrap_or o empty_path) (remaining net states left v better (q ∷ order))) (sym later)
              (elim (cases_Bool test) [ inl c ↦ rw c (inr more) | inr c ↦ rw c more ]))
        ]

    pub stable_remains : (v == 0) ≡ false → In (stable_path net ribs v (states v)) (remaining net states left v [] (states v).order)
    stable_remains other = rw other (best_remains [] (states v).order (λ y none. absurd none))

  -- what elimination leaves stands in the lists
  pub may_left : (n v : ℕ) (q : PathNo) → MayUse net states (suc n) v q → In q (left_after net states n v)
  may_left zero v q may =
      elim (cases_Bool (v == 0)) [
        | inl b ↦ rw b (inl (may.2 ∙ rw b refl))
        | inr b ↦ rw b (subst (λ z. In z ((states v).order ++ empty_path ∷ [])) (sym (may.2 ∙ rw b refl)) (found_in (is_reached net may.0 v (states v)) empty_path (states v).order))
      ]
  may_left (suc n) v q may =
      elim (cases_Bool (v == 0)) [
        | inl b ↦ rw b (inl (may.2 ∙ rw b refl))
        | inr b ↦ rw b (subst (λ z. In z (remaining net states (left_after net states n) v [] (states v).order)) (sym may.2)
            (stable_remains (left_after net states n) may.0 (λ w. may_left n w (may.0 w) (may.1 w)) v b))
      ]

  -- what stands in a list of one path is that path
  pub alone_at : (n v : ℕ) (q : PathNo) → left_after net states n v ≡ q ∷ [] → (p : PathNo) → In p (left_after net states n v) → p ≡ q
  alone_at n v q is p there = grind arith

  pub alone : (n : ℕ) → ((v : ℕ) → v < net.nodes → (q : PathNo) × (left_after net states n v ≡ q ∷ [])) → (v : ℕ) → v < net.nodes → (p q : PathNo)
      → In p (left_after net states n v) → In q (left_after net states n v) → p ≡ q
  alone n one v here p q first second =
      let only = one v here in
      alone_at n v only.0 only.1 p first ∙ sym (alone_at n v only.0 only.1 q second)

  -- where each router has one path left, elimination leaves no choice
  pub left_solved : (n : ℕ) → ((v : ℕ) → v < net.nodes → (q : PathNo) × (left_after net states n v ≡ q ∷ [])) → IsSolvedIn net states (suc n)
  left_solved n one v here p q first second = alone n one v here p q (may_left n v p first) (may_left n v q second)

-- what stands in a list is counted there
pub counted : (q : PathNo) (xs : List PathNo) → In q xs → 0 < length (filter (λ x. x.0 == q.0) xs)
counted q (x ∷ xs) (inl e) = rw (eq-eqb x.0 q.0 (ap (λ z. z.0) (sym e))) (omega arith)
counted q (x ∷ xs) (inr k) = grind (arith, cases_Bool, counted q xs k)
counted q [] k = absurd k
