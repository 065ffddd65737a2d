-- Rows that are put behind one another, and read.
use Rattle.std.proofs.Common.{◌≡◌, ℕ, ◌+◌, ◌-◌, ◌<◌, ◌≤◌, List, [], ◌∷◌, ◌++◌, length, map, get_or, take, drop, arith, refl, ap, sym, ◌∙◌, inl, inr}
use Rattle.std.proofs.lemmas.Bool.{cases_lt}
use Rattle.std.proofs.lemmas.List.{drop-append-le, drop-map, get_or_append_left, get_or_default, get_or_past, get_or_push, length-append, length-drop, length_push, take-append-le, take-map, take_all}
use Rattle.std.proofs.Math.Seq.{drop-append_seam}
use Rattle.tw_instance.specs.Sparse.{AreRowsOf, IsRowWithin, cut}

-- ---- made row by row

pub no_cuts : {X : Type 0} (F : ℕ → List X) (starts : List ℕ) (xs : List X) → starts ≡ 0 ∷ [] → xs ≡ [] → AreRowsOf F 0 starts xs
no_cuts F starts xs one none = record {
  long = ap length one;
  end = ap (λ ss. get_or ss 0 0) one ∙ ap length (sym none);
  cuts = λ r h. absurd (omega arith);
  rows = λ r h. absurd (omega arith);
}

-- a row that stands already stays
cut_kept : {X : Type 0} (starts : List ℕ) (r n : ℕ) (xs ys : List X) → r + 1 < length starts → IsRowWithin starts r (length xs) → cut (starts ++ n ∷ []) r (xs ++ ys) ≡ cut starts r xs
cut_kept starts r n xs ys there within =
    let low = get_or_append_left starts (n ∷ []) 0 r (omega arith) in
    let high = get_or_append_left starts (n ∷ []) 0 (r + 1) there in
    let s = get_or starts r 0 in
    let m = get_or starts (r + 1) 0 in
    let up : s ≤ m = within.rises in
    let in' : m ≤ length xs = within.within in
    rw (low, high) (ap (take (m - s)) (drop-append-le s xs ys (omega arith)) ∙ take-append-le (m - s) (drop s xs) ys (let l = length-drop s xs in omega arith))

pub cut_push : {X : Type 0} (F : ℕ → List X) (k n : ℕ) (starts : List ℕ) (xs row : List X) → AreRowsOf F k starts xs → row ≡ F k → n ≡ length (xs ++ row)
    → AreRowsOf F (k + 1) (starts ++ n ∷ []) (xs ++ row)
cut_push F k n starts xs row so is count =
    let more = starts ++ n ∷ [] in
    let longer : length more ≡ k + 1 + 1 = (let l = length_push starts n in let m = so.long in omega arith) in
    let sum = length-append xs row in
    let before : (r : ℕ) → r ≤ k → get_or more r 0 ≡ get_or starts r 0 = λ r h. get_or_append_left starts (n ∷ []) 0 r (let m = so.long in omega arith) in
    let end : get_or more (k + 1) 0 ≡ n = get_or_push starts n 0 (k + 1) (let m = so.long in omega arith) in
    let begin : get_or more k 0 ≡ length xs = before k (omega arith) ∙ so.end in
    record {
      long = longer;
      end = end ∙ count;
      cuts = λ r h. elim (cases_lt r k) [
        | inl below ↦ (
            let c = so.cuts r below in
            let low = before r (omega arith) in
            let high = before (r + 1) (omega arith) in
            let up = c.rises in
            let in' = c.within in
            record { rises = omega arith; within = omega arith })
        | inr at ↦ (
            let e : r ≡ k = omega arith in
            rw e record { rises = omega arith; within = omega arith })
      ];
      rows = λ r h. elim (cases_lt r k) [
        | inl below ↦ (cut_kept starts r n xs row (let m = so.long in omega arith) (so.cuts r below) ∙ so.rows r below)
        | inr at ↦ (
            let e : r ≡ k = omega arith in
            let m : n - length xs ≡ length row = omega arith in
            let rest : drop (length xs) (xs ++ row) ≡ row = drop-append_seam xs row in
            rw e (rw (begin, end, m, rest) (take_all (length row) row (omega arith) ∙ is)))
      ];
    }

-- ---- read

-- behind the last row there is none
pub cut_past : {X : Type 0} (starts : List ℕ) (r : ℕ) (xs : List X) → length starts ≤ r + 1 → cut starts r xs ≡ []
cut_past starts r xs past =
    let none = get_or_past starts (r + 1) 0 past in
    let s = get_or starts r 0 in
    let empty : 0 - s ≡ 0 = omega arith in
    rw (none, empty) refl

-- a row of what items say is what the items of the row say
pub cut_map : {X Y : Type 0} (f : X → Y) (starts : List ℕ) (r : ℕ) (xs : List X) → cut starts r (map f xs) ≡ map f (cut starts r xs)
cut_map f starts r xs =
    let s = get_or starts r 0 in
    let m = get_or starts (r + 1) 0 - s in
    ap (take m) (drop-map f s xs) ∙ take-map f m (drop s xs)

-- where a row begins and ends, as it was read
pub read_start : (starts : List ℕ) (r s : ℕ) → r < length starts → s ≡ get_or starts r s → s ≡ get_or starts r 0
read_start starts r s low e = e ∙ get_or_default starts r s 0 low

pub read_cut : {X : Type 0} (starts : List ℕ) (r s e : ℕ) (xs ys : List X) → r + 1 < length starts → s ≡ get_or starts r s → e ≡ get_or starts (r + 1) e → xs ≡ ys → take (e - s) (drop s xs) ≡ cut starts r ys
read_cut starts r s e xs ys low begin end same =
    let b = read_start starts r s (omega arith) begin in
    let f = read_start starts (r + 1) e low end in
    ap (λ k. take (e - k) (drop k xs)) b ∙ (ap (λ k. take (k - get_or starts r 0) (drop (get_or starts r 0) xs)) f ∙ ap (cut starts r) same)
