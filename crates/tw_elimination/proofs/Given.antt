-- The place of a path that a neighbour's path gives, by the path that it offers.
use Rattle.std.proofs.Common.{◌≡◌, ℕ, ◌-◌, ◌≤◌, ◌==◌, Bool, true, false, List, [], ◌∷◌, length, IsTrue, inl, inr, arith, if◌then◌else◌}
use Rattle.std.specs.List.{position_or_len}
use Rattle.std.proofs.lemmas.Bool.{cases_Bool}
use Rattle.tw_event.specs.declared.event.PathNo.{PathNo}
use Rattle.tw_model.specs.State.{Router, bars, offers}
use Rattle.tw_router.specs.Ranks.{IsOfferedAt}
use Rattle.tw_router.proofs.Ranking.{rank_none, rank_some}
use Rattle.tw_policy.specs.Left.{allows}
use Rattle.tw_elimination.specs.Marks.{place_given, place_open, telling}

pub place_most : {X : Type 0} (test : X → Bool) (xs : List X) → position_or_len test xs ≤ length xs
place_most test [] = omega arith
place_most test (x ∷ xs) = let more = place_most test xs in elim (cases_Bool (test x)) [ inl b ↦ rw b (omega arith) | inr b ↦ rw b (omega arith) ]

-- two places whose distances from the end are alike
same_place : (b : Bool) (n i j : ℕ) → i ≤ n → j ≤ n → (if b then 0 else n - i) ≡ n - j → (if b then n else i) ≡ j
same_place true n i j low high e = omega arith
same_place false n i j low high e = omega arith

module _ (r : Router) (p : PathNo) where
  most : place_given r p ≤ length r.state.order
  most = place_most (λ q. allows r.net (λ v. r.state) r.node q p) r.state.order

  -- where it gives none
  pub place_none : ((q : PathNo) → IsTrue (offers r.net r.node q (telling p)) → ⊥) → length r.state.order ≡ place_given r p
  place_none none =
      let last : 0 ≡ length r.state.order - place_given r p = rank_none r.net r.node r.state.order r.state.barred (telling p) (λ q. (λ h. absurd (none q h), λ e. cc)) in
      let high = most in
      omega arith

  -- where it gives the path at this line
  pub place_some : (line : ℕ) → (at : IsOfferedAt r.net r.node (telling p) line) → place_open r at.0 ≡ place_given r p
  place_some line at =
      let ranks = rank_some r.net r.node r.state.order r.state.barred (telling p) at.0 at.2 in
      same_place (bars r.net r.node r.state.barred at.0) (length r.state.order) (position_or_len (λ q. q.0 == at.0.0) r.state.order) (place_given r p)
      (place_most (λ q. q.0 == at.0.0) r.state.order) most ranks
