-- A tree of least times.
use Rattle.std.proofs.Common.{◌≡◌, ◌≤◌, ◌<◌, ◌+◌, ◌-◌, ◌*◌, ◌/◌, ◌^◌, ℕ, zero, suc, List, drop, take, min, length, get_or, set, ap, sym, ◌∙◌, inl, inr, arith}
use Rattle.std.proofs.Math.Nat.{mul-le-mul_left, one-le-pow, pow-suc}
use Rattle.std.proofs.Math.Seq.{take-set-lt}
use Rattle.std.proofs.lemmas.Bool.{cases_eq, cases_lt}
use Rattle.std.proofs.lemmas.List.{drop-set-add, get_or-drop, get_or-take, length-drop, length-take}
use Rattle.tw_queue.specs.Least.{AreLesser, IsFirstLeast, IsFirstOfLevel}

-- what a list has from a place on, by index
pub same_from : (n : ℕ) (xs ys : List ℕ) → drop n xs ≡ drop n ys → (k : ℕ) → n ≤ k → get_or xs k 0 ≡ get_or ys k 0
same_from n xs ys h k l =
    let place : n + (k - n) ≡ k = omega arith in
    ap (λ i. get_or xs i 0) (sym place) ∙ sym (get_or-drop n xs (k - n) 0) ∙ ap (λ zs. get_or zs (k - n) 0) h ∙ get_or-drop n ys (k - n) 0 ∙ ap (λ i. get_or ys i 0) place

-- from the first of a level to the first of the next
pub next_level : (nodes : List ℕ) (level node child : ℕ) → AreLesser nodes → 0 < level → 4 * level ≤ length nodes → IsFirstOfLevel nodes level node → child / 2 ≡ node
    → get_or nodes child 0 ≡ min (get_or nodes (2 * node) 0) (get_or nodes (2 * node + 1) 0) → (child ≡ 2 * node + 1 → get_or nodes child 0 < get_or nodes (2 * node) 0)
    → IsFirstOfLevel nodes (level * 2) child
next_level nodes level node child lesser p long old parent is right =
    let from = old.from in
    let below = old.below in
    let mine : get_or nodes child 0 ≡ get_or nodes node 0 = is ∙ sym (lesser node (omega arith) (omega arith)) in
    let above : (k : ℕ) → level * 2 ≤ k → k < 2 * (level * 2) → get_or nodes (k / 2) 0 ≤ get_or nodes k 0 = λ k l m.
    let half = lesser (k / 2) (omega arith) (omega arith) in
    elim (cases_eq k (2 * (k / 2))) [
      | inl e ↦ let same = ap (λ j. get_or nodes j 0) e in omega arith
      | inr d ↦
          let e : k ≡ 2 * (k / 2) + 1 = omega arith in
          let same = ap (λ j. get_or nodes j 0) e in
          omega arith
    ] in
    record {
      from = omega arith;
      below = omega arith;
      least = λ k l m.
          let a = above k l m in
          let b = old.least (k / 2) (omega arith) (omega arith) in
          omega arith;
      first = λ k l m. grind arith;
    }

-- a level that is leaves to be doubled so often
pub level_below : (leaves level r : ℕ) → leaves ≡ level * 2 ^ r → level < leaves → (s : ℕ) × (leaves ≡ level * 2 * 2 ^ s)
level_below leaves level zero h l = absurd (omega arith)
level_below leaves level (suc r) h l = (r, (let q = ap (λ n. level * n) (pow-suc 2 r) in omega arith))

pub twice_fits : (leaves level s : ℕ) → leaves ≡ level * 2 * 2 ^ s → level * 2 ≤ leaves
twice_fits leaves level s h = let one = mul-le-mul_left (level * 2) (one-le-pow s 2 (omega arith)) in omega arith

pub level_end : (leaves level r : ℕ) → leaves ≡ level * 2 ^ r → leaves ≤ level → level ≡ leaves
level_end leaves level r h n = let one = mul-le-mul_left level (one-le-pow r 2 (omega arith)) in omega arith

-- the first leaf with the least time is the first place of it in the row
module _ (count leaves : ℕ) (nodes : List ℕ) (len : length nodes ≡ 2 * leaves) (within : count ≤ leaves) where
  abbrev pub row : List ℕ
  row = take count (drop leaves nodes)

  pub length_row : length row ≡ count
  length_row = grind (arith, length-take, length-drop)

  pub at : (k : ℕ) → k < count → get_or row k 0 ≡ get_or nodes (leaves + k) 0
  at k l = get_or-take count (drop leaves nodes) k 0 l ∙ get_or-drop leaves nodes k 0

  pub first_of_row : (t leaf : ℕ) → 0 < count → get_or nodes leaves 0 ≤ t → ((k : ℕ) → leaves + count ≤ k → k < 2 * leaves → get_or nodes k 0 ≡ t) → IsFirstOfLevel nodes leaves leaf
      → IsFirstLeast row (leaf - leaves)
  first_of_row t leaf some low past first = grind (arith, cases_lt, length_row, at)

-- a time of the row changes
pub row_set : (count leaves place time : ℕ) (nodes new : List ℕ) → drop leaves new ≡ drop leaves (set nodes (leaves + place) time) → place < count
    → take count (drop leaves new) ≡ set (take count (drop leaves nodes)) place time
row_set count leaves place time nodes new h l = ap (take count) (h ∙ drop-set-add leaves nodes place time) ∙ take-set-lt count (drop leaves nodes) place time l
