-- One step of picking the paths that are left.
use Rattle.std.proofs.Common.{◌≡◌, ℕ, suc, ◌+◌, ◌-◌, ◌<◌, ◌≤◌, Bool, true, false, ◌&&◌, List, [], ◌∷◌, ◌++◌, append_assoc, drop, drop-cons, get_or, length, nat_lt, refl, ap, sym, ◌∙◌, arith, if◌then◌else◌}
use Rattle.std.proofs.Math.Seq.{drop-length}
use Rattle.std.proofs.lemmas.Bool.{le-ltb, lt-ltb}
use Rattle.tw_event.specs.declared.event.PathNo.{PathNo}
use Rattle.tw_model.specs.Net.{empty_path}
use Rattle.tw_elimination.specs.Marks.{picked}

pub unmarked_high : (b : Bool) (k n : ℕ) → n ≤ k → (b && nat_lt k n) ≡ false
unmarked_high true k n high = le-ltb k n high
unmarked_high false k n high = refl

-- a number is below another where there is some way between them
pub lt_gap : (k n : ℕ) → nat_lt 0 (n - k) ≡ nat_lt k n
lt_gap k n = grind arith

module _ (order : List PathNo) (given : List Bool) (n place : ℕ) (d : PathNo) (within : place < length order) (long : length given ≡ length order + 1) where
  abbrev others : List PathNo
  others = picked (drop (place + 1) order) (drop (place + 1) given) (n - (place + 1))

  pub pick_step : picked (drop place order) (drop place given) (n - place) ≡ (if get_or given place false && nat_lt place n then get_or order place d ∷ others else others)
  pick_step =
      let one : suc place ≡ place + 1 = omega arith in
      let less : (n - place) - 1 ≡ n - (place + 1) = omega arith in
      ap (λ o. picked o (drop place given) (n - place)) (drop-cons order place d within)
      ∙ (ap (λ g. picked (get_or order place d ∷ drop (suc place) order) g (n - place)) (drop-cons given place false (omega arith))
      ∙ (ap (λ b. if get_or given place false && b then get_or order place d ∷ picked (drop (suc place) order) (drop (suc place) given) ((n - place) - 1) else picked (drop (suc place) order) (drop (suc place) given) ((n - place) - 1)) (lt_gap place n)
      ∙ (ap (λ m. if get_or given place false && nat_lt place n then get_or order place d ∷ picked (drop (suc place) order) (drop (suc place) given) m else picked (drop (suc place) order) (drop (suc place) given) m) less
      ∙ ap (λ k. if get_or given place false && nat_lt place n then get_or order place d ∷ picked (drop k order) (drop k given) (n - (place + 1)) else picked (drop k order) (drop k given) (n - (place + 1))) one)))

  -- a path more
  pub pick_more : (whole left more : List PathNo) → place < n → get_or given place false ≡ true → more ≡ left ++ get_or order place d ∷ []
      → left ++ picked (drop place order) (drop place given) (n - place) ≡ whole → more ++ others ≡ whole
  pick_more whole left more low marked pushed before =
      let step : picked (drop place order) (drop place given) (n - place) ≡ get_or order place d ∷ others = pick_step ∙ rw (marked, lt-ltb place n low) refl in
      ap (λ xs. xs ++ others) pushed ∙ (append_assoc left (get_or order place d ∷ []) others ∙ (ap (λ xs. left ++ xs) (sym step) ∙ before))

  -- none
  pub pick_none : (whole left same : List PathNo) → (get_or given place false && nat_lt place n) ≡ false → same ≡ left
      → left ++ picked (drop place order) (drop place given) (n - place) ≡ whole → same ++ others ≡ whole
  pick_none whole left same unmarked is before =
      let step : picked (drop place order) (drop place given) (n - place) ≡ others = pick_step ∙ rw unmarked refl in
      ap (λ xs. xs ++ others) is ∙ (ap (λ xs. left ++ xs) (sym step) ∙ before)

-- behind the last path
pub pick_last : (order : List PathNo) (given : List Bool) (n place : ℕ) → place ≡ length order
    → picked (drop place order) (drop place given) (n - place) ≡ (if nat_lt (length order) n then empty_path ∷ [] else [])
pick_last order given n place is =
    let same : n - place ≡ n - length order = omega arith in
    ap (λ k. picked (drop k order) (drop place given) (n - place)) is
    ∙ (ap (λ o. picked o (drop place given) (n - place)) (drop-length order)
    ∙ (ap (λ m. if nat_lt 0 m then empty_path ∷ [] else []) same ∙ ap (λ b. if b then empty_path ∷ [] else []) (lt_gap (length order) n)))
