-- The chunks of a list are its first one and those of what is behind it.
use Rattle.std.proofs.Common.{◌≡◌, ℕ, zero, suc, ◌+◌, ◌-◌, ◌*◌, ◌<◌, ◌≤◌, min, refl, List, [], ◌∷◌, ◌++◌, drop, drop-drop, length, length-append, take, take_all, ap, sym, ◌∙◌, subst, inl, inr, arith}
use Rattle.std.proofs.lemmas.Bool.{cases_lt}
use Rattle.std.proofs.lemmas.List.{append-nil, drop_at, take-append-le}
use Rattle.std.specs.Fork.{slice_chunk}
use Rattle.tw_rounds.specs.Turns.{HaveTurned, MayTurn}
use Rattle.tw_rounds.specs.declared.turning.Round.{Round}

module _ {X : Type 0} (size : ℕ) where
  -- a first chunk, and what is behind it
  abbrev pub IsCut : List X → List X → List X → Type 0
  IsCut all share others = (all ≡ share ++ others) × (length share ≡ min size (length all))

  nothing : (xs : List X) → length xs ≡ 0 → xs ≡ []
  nothing [] none = refl
  nothing (x ∷ xs) none = absurd (omega arith)

  -- a list of one chunk at most is that chunk
  only_is : (xs : List X) → length xs ≤ size → slice_chunk xs size 0 ≡ xs
  only_is xs le = (let from : 0 * size ≡ 0 = omega arith in ap (λ k. take size (drop k xs)) from ∙ take_all size xs le)

  full : (all share others : List X) → IsCut all share others → 0 < length others → length share ≡ size
  full all share others cut some = (let sum = ap length cut.0 ∙ length-append share others in omega arith)

  first_is : (all share others : List X) → IsCut all share others → slice_chunk all size 0 ≡ share
  first_is all share others cut =
      let sum = ap length cut.0 ∙ length-append share others in
      elim (cases_lt 0 (length others)) [
        | inl some ↦
            let from : 0 * size ≡ 0 = omega arith in
            let whole = full all share others cut some in
            ap (λ k. take size (drop k all)) from ∙ (ap (take size) cut.0 ∙ (take-append-le size share others (omega arith) ∙ take_all size share (omega arith)))
        | inr none ↦
            let is : all ≡ share = cut.0 ∙ (ap (λ zs. share ++ zs) (nothing others (omega arith)) ∙ append-nil share) in
            only_is all (omega arith) ∙ is
      ]

  next_is : (all share others : List X) (n : ℕ) → IsCut all share others → 0 < length others → slice_chunk all size (suc n) ≡ slice_chunk others size n
  next_is all share others n cut some =
      let from : suc n * size ≡ size + n * size = omega arith in
      ap (λ k. take size (drop k all)) from
      ∙ (ap (take size) (sym (drop-drop (n * size) size all)) ∙ ap (λ zs. take size (drop (n * size) zs)) (ap (drop size) cut.0 ∙ drop_at share others size (full all share others cut some)))

  -- those behind the first share may take their turns
  pub behind : (may : Round → ℕ → List X → Type 0) (round : Round) (start count first : ℕ) (all share others : List X) → IsCut all share others → length share ≡ first → 1 < count
      → MayTurn may round start size count all → MayTurn may round (start + first) size (count - 1) others
  behind may round start zero first all share others cut is more ready = absurd (omega arith)
  behind may round start (suc count) first all share others cut is more ready =
      let sum = ap length cut.0 ∙ length-append share others in
      let counted : suc count * size ≡ size + count * size = omega arith in
      let back : suc count - 1 ≡ count = omega arith in
      let le = ready.covered in
      let rest : length others ≤ count * size = elim (cases_lt 0 (length others)) [
        | inl some ↦ (let whole = full all share others cut some in omega arith)
        | inr none ↦ omega arith
      ] in
      record {
        some = ready.some;
        counted = omega arith;
        covered = subst (λ k. length others ≤ k * size) (sym back) rest;
        room = (let le = ready.room in omega arith);
        each = λ n l.
            let some : 0 < length others = omega arith in
            let whole = full all share others cut some in
            let at : start + suc n * size ≡ start + first + n * size = omega arith in
            subst (λ k. may round k (slice_chunk others size n)) at
            (subst (may round (start + suc n * size)) (next_is all share others n cut some) (ready.each (suc n) (omega arith)));
      }

  module _ (has : Round → ℕ → List X → List X → Type 0) (round : Round) (start first : ℕ) (all share others share1 others1 : List X) (cut : IsCut all share others) (is : length share ≡ first)
      (a : HaveTurned has round start size share share1) (b : HaveTurned has round (start + first) size others others1) where
    cut_after : IsCut (share1 ++ others1) share1 others1
    cut_after =
        let sum = ap length cut.0 ∙ length-append share others in
        let sum1 = length-append share1 others1 in
        let ca = a.count in let cb = b.count in
        (refl, omega arith)

    at_each : 0 < length share → (n : ℕ) → n * size < length all → has round (start + n * size) (slice_chunk all size n) (slice_chunk (share1 ++ others1) size n)
    at_each filled zero l =
        let ca = a.count in
        let low : 0 * size < length share = omega arith in
        let short : length share ≤ size = (let c = cut.1 in omega arith) in
        let old : slice_chunk share size 0 ≡ slice_chunk all size 0 = only_is share short ∙ sym (first_is all share others cut) in
        let new : slice_chunk share1 size 0 ≡ slice_chunk (share1 ++ others1) size 0 = only_is share1 (omega arith) ∙ sym (first_is (share1 ++ others1) share1 others1 cut_after) in
        subst (λ zs. has round (start + 0 * size) zs (slice_chunk (share1 ++ others1) size 0)) old (subst (has round (start + 0 * size) (slice_chunk share size 0)) new (a.each 0 low))
    at_each filled (suc n) l =
        let sum = ap length cut.0 ∙ length-append share others in
        let cb = b.count in let c = cut.1 in
        let more : suc n * size ≡ size + n * size = omega arith in
        let some : 0 < length others = omega arith in
        let whole = full all share others cut some in
        let at : start + first + n * size ≡ start + suc n * size = omega arith in
        subst (λ k. has round k (slice_chunk all size (suc n)) (slice_chunk (share1 ++ others1) size (suc n))) at
        (subst (λ zs. has round (start + first + n * size) zs (slice_chunk (share1 ++ others1) size (suc n))) (sym (next_is all share others n cut some))
        (subst (has round (start + first + n * size) (slice_chunk others size n)) (sym (next_is (share1 ++ others1) share1 others1 n cut_after (omega arith))) (b.each n (omega arith))))

    -- where the first share has turned, and those behind it, all have
    pub joined : 0 < length share → HaveTurned has round start size all (share1 ++ others1)
    joined filled =
        let sum = ap length cut.0 ∙ length-append share others in
        let sum1 = length-append share1 others1 in
        let ca = a.count in let cb = b.count in
        record { count = omega arith; each = at_each filled }
