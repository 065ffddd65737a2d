-- The shard that has a router is one of them.
use Rattle.std.proofs.Common.{◌≡◌, ℕ, zero, suc, ◌+◌, ◌<◌, cond, true, List, [], ◌∷◌, Some, None, get_or, length, nat_lt, refl, ap, ◌∙◌, inl, inr, arith}
use Rattle.std.proofs.lemmas.Bool.{cases_Bool, lt-ltb, ltb-true}
use Rattle.std.specs.List.{position_or_len}
use Rattle.std.specs.Option.{unwrap_or}
use Rattle.tw_shard.specs.Shard.{Shard, no_shard, owns}
use Rattle.tw_shard.specs.Shards.{place_for, shard_for}

-- the first that has it, where one has
first_of : (r k : ℕ) (ss : List Shard) → k < length ss → owns (get_or ss k no_shard) r ≡ true
    → (position_or_len (λ s. owns s r) ss < length ss) × (owns (get_or ss (position_or_len (λ s. owns s r) ss) no_shard) r ≡ true)
first_of r k [] within has = absurd (omega arith)
first_of r zero (s ∷ ss) within has = rw has ((omega arith), has)
first_of r (suc k) (s ∷ ss) within has = elim (cases_Bool (owns s r)) [
  | inl b ↦ rw b ((omega arith), b)
  | inr b ↦ (
      let more = first_of r k ss (omega arith) has in
      let j = position_or_len (λ s. owns s r) ss in
      let l = more.0 in
      let next : 1 + j ≡ suc j = omega arith in
      rw b ((omega arith), ap (λ k. owns (get_or (s ∷ ss) k no_shard) r) next ∙ more.1))
]

-- the place is that of the first, where there is one
pub within_place : (ss : List Shard) (r : ℕ) → position_or_len (λ s. owns s r) ss < length ss → unwrap_or (place_for ss r) 0 ≡ position_or_len (λ s. owns s r) ss
within_place ss r within =
    let at = position_or_len (λ s. owns s r) ss in
    ap (λ b. unwrap_or (cond b (Some at) None) 0) (lt-ltb at (length ss) within)

pub found_at : (ss : List Shard) (r k : ℕ) → k < length ss → owns (get_or ss k no_shard) r ≡ true
    → (j : ℕ) × (j < length ss) × (shard_for ss r ≡ get_or ss j no_shard) × (owns (get_or ss j no_shard) r ≡ true)
found_at ss r k within has =
    let first = first_of r k ss within has in
    (position_or_len (λ s. owns s r) ss, first.0, ap (λ j. get_or ss j no_shard) (within_place ss r first.0), first.1)

-- it is one of them in any case
pub place_within : (ss : List Shard) (r : ℕ) → 0 < length ss → unwrap_or (place_for ss r) 0 < length ss
place_within ss r some =
    let at = position_or_len (λ s. owns s r) ss in
    elim (cases_Bool (nat_lt at (length ss))) [
      | inl b ↦ (let l = ltb-true at (length ss) b in let same = within_place ss r l in omega arith)
      | inr b ↦ (let zero_there : unwrap_or (place_for ss r) 0 ≡ 0 = ap (λ b. unwrap_or (cond b (Some at) None) 0) b in omega arith)
    ]

pub one_of_all : (ss : List Shard) (r : ℕ) → 0 < length ss → (j : ℕ) × (j < length ss) × (shard_for ss r ≡ get_or ss j no_shard)
one_of_all ss r some = (unwrap_or (place_for ss r) 0, place_within ss r some, refl)
