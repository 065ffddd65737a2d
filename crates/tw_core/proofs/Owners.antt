-- The one part that owns a router.
use Rattle.std.proofs.Common.{◌≡◌, ℕ, ◌<◌, cond, true, List, [], ◌∷◌, Some, refl, inl, inr, arith}
use Rattle.std.proofs.lemmas.Bool.{cases_Bool, both_ways}
use Rattle.std.specs.List.{AllByRecursion}
use Rattle.std.specs.Option.{option_map_or}
use Rattle.tw_core.proofs.Sums.{all_both, all_map, total_zero}
use Rattle.tw_core.specs.Machine.{Core}
use Rattle.tw_core.specs.Parts.{Part, at_owner, owning_part, total}
use Rattle.tw_sim.proofs.Counts.{none}

module _ {E : Type 0} (r : ℕ) where
  abbrev pub owning : Part E → ℕ
  owning p = cond (p.owns r) 1 0

  -- where no part owns it
  pub unowned : (parts : List (Part E)) → total owning parts ≡ 0 → AllByRecursion (λ p. p.owns r ≡ true → ⊥) parts
  unowned [] h = tt
  unowned (p ∷ parts) h = ((λ b. let k = rw b at h in omega arith), unowned parts (omega arith))

  -- the one owner is found
  pub owner_is : (parts : List (Part E)) → total owning parts ≡ 1 → AllByRecursion (λ p. p.owns r ≡ true → owning_part r parts ≡ Some p) parts
  owner_is [] h = tt
  owner_is (p ∷ parts) h =
      elim (cases_Bool (p.owns r)) [
        | inl b ↦
            let rest : total owning parts ≡ 0 = (let k = rw b at h in omega arith) in
            ((λ k. rw b refl), all_map (λ q. q.owns r ≡ true → ⊥) (λ q. q.owns r ≡ true → owning_part r (p ∷ parts) ≡ Some q) (λ q no k. absurd (no k)) parts (unowned parts rest))
        | inr b ↦
            let rest : total owning parts ≡ 1 = (let k = rw b at h in omega arith) in (
              (λ k. absurd (both_ways (p.owns r) b k)),
              all_map (λ q. q.owns r ≡ true → owning_part r parts ≡ Some q) (λ q. q.owns r ≡ true → owning_part r (p ∷ parts) ≡ Some q) (λ q found k. rw b (found k)) parts (owner_is parts rest),
            )
      ]

  -- what only the owner has is the sum over all
  pub owned : (f : Part E → ℕ) (parts : List (Part E)) → total owning parts ≡ 1 → AllByRecursion (λ p. 0 < f p → p.owns r ≡ true) parts
      → total f parts ≡ option_map_or f (owning_part r parts) 0
  owned f [] h only = cc
  owned f (p ∷ parts) h only =
      elim (cases_Bool (p.owns r)) [
        | inl b ↦
            let rest : total owning parts ≡ 0 = (let k = rw b at h in omega arith) in
            let zero = all_both (λ q. q.owns r ≡ true → ⊥) (λ q. 0 < f q → q.owns r ≡ true) (λ q. f q ≡ 0) (λ q no yes. none (f q) (λ k. no (yes k))) in
            let others = total_zero f parts (zero parts (unowned parts rest) only.1) in
            rw b (omega arith)
        | inr b ↦
            let rest : total owning parts ≡ 1 = (let k = rw b at h in omega arith) in
            let others = owned f parts rest only.1 in
            let mine = none (f p) (λ k. both_ways (p.owns r) b (only.0 k)) in
            rw b (omega arith)
      ]

  -- what holds of each part's is held by the owner's
  pub from_owner : {X : Type 0} (read : Core E → X) (nothing : X) (P : X → Type 0) → P nothing → (parts : List (Part E)) → AllByRecursion (λ p. P (read p.core)) parts
      → P (at_owner read nothing parts r)
  from_owner read nothing P base [] h = base
  from_owner read nothing P base (p ∷ parts) h =
      elim (cases_Bool (p.owns r)) [ inl b ↦ rw b h.0 | inr b ↦ rw b (from_owner read nothing P base parts h.1) ]

  -- where the owner's is this, so is what is read
  pub of_owner : {X : Type 0} (read : Core E → X) (nothing value : X) (parts : List (Part E)) → AllByRecursion (λ p. p.owns r ≡ true → read p.core ≡ value) parts → 0 < total owning parts
      → at_owner read nothing parts r ≡ value
  of_owner read nothing value [] each some = absurd (omega arith)
  of_owner read nothing value (p ∷ parts) each some =
      elim (cases_Bool (p.owns r)) [
        | inl b ↦ rw b (each.0 b)
        | inr b ↦ (let rest : owning p ≡ 0 = rw b refl in rw b (of_owner read nothing value parts each.1 (omega arith)))
      ]
