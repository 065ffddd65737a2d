-- The chunks of a list and what is left after them, against the whole list.
use Rattle.std.proofs.Common.{◌≡◌, ℕ, ◌+◌, ◌-◌, ◌*◌, ◌≤◌, zero, suc, Bool, false, true, not, cond, List, [], ◌∷◌, ◌++◌, length, take, drop, refl, sym, ap, ◌∙◌, arith, count_by, map, eqb, ltb, ◌||◌, subst, Option, option_map, Some, None, position}
use Rattle.std.specs.List.{flat_map, sum_by, list_any, prefix_len, position_or_len}
use Rattle.std.specs.Simd.{first_chunks}
use Rattle.std.specs.Simd.Lanes.{mask_l}
use Rattle.std.proofs.lemmas.Bool.Decides.{nat_tests}
use Rattle.std.proofs.lemmas.Simd.{length-chunk}
use Rattle.std.proofs.lemmas.List.{drop-drop, take-append-drop, take_rest, append_assoc, length-drop}
use Rattle.std.proofs.lemmas.List.Sums.{sum_by-cons, sum_by-append}

abbrev pub joined : List (List ℕ) → List ℕ
joined chunks = flat_map (λ chunk. chunk) chunks

pub drop-chunk : (n k : ℕ) (xs : List ℕ) → drop (suc k * n) xs ≡ drop (k * n) (drop n xs)
drop-chunk n k xs = ap (λ m. drop m xs) (omega arith) ∙ sym (drop-drop (k * n) n xs)

pub joined_then_rest : (n k : ℕ) (xs : List ℕ) → joined (first_chunks n k xs) ++ drop (k * n) xs ≡ xs
joined_then_rest n zero xs = let none : zero * n ≡ 0 = omega arith in ap (λ m. drop m xs) none
joined_then_rest n (suc k) xs =
    append_assoc (take n xs) (joined (first_chunks n k (drop n xs))) (drop (suc k * n) xs)
    ∙ ap (λ ys. take n xs ++ (joined (first_chunks n k (drop n xs)) ++ ys)) (drop-chunk n k xs)
    ∙ ap (λ ys. take n xs ++ ys) (joined_then_rest n k (drop n xs))
    ∙ take-append-drop n xs

pub sum_of_counts : (p : ℕ → Bool) (chunks : List (List ℕ)) → sum_by (count_by p) chunks ≡ count_by p (joined chunks)
sum_of_counts p [] = refl
sum_of_counts p (chunk ∷ chunks) =
    sum_by-cons (count_by p) chunk chunks
    ∙ ap (λ n. count_by p chunk + n) (sum_of_counts p chunks)
    ∙ sym (sum_by-append (λ x. cond (p x) 1 0) chunk (joined chunks))

pub count_in_parts : (p : ℕ → Bool) (n k : ℕ) (xs : List ℕ) → sum_by (count_by p) (first_chunks n k xs) + count_by p (drop (k * n) xs) ≡ count_by p xs
count_in_parts p n k xs =
    ap (λ m. m + count_by p (drop (k * n) xs)) (sum_of_counts p (first_chunks n k xs))
    ∙ sym (sum_by-append (λ x. cond (p x) 1 0) (joined (first_chunks n k xs)) (drop (k * n) xs))
    ∙ ap (count_by p) (joined_then_rest n k xs)

lane_set : (b : Bool) (m : ℕ) → not (eqb (cond b 1 0 + 2 * m) 0) ≡ (b || not (eqb m 0))
lane_set b m = grind (arith, nat_tests)

-- a mask is not empty where a lane passes
pub mask_not_empty : (p : ℕ → Bool) (xs : List ℕ) → not (eqb (mask_l (map p xs)) 0) ≡ list_any p xs
mask_not_empty p [] = refl
mask_not_empty p (x ∷ xs) = lane_set (p x) (mask_l (map p xs)) ∙ ap (λ b. p x || b) (mask_not_empty p xs)

past_one : (b more : Bool) (m l z : ℕ) → (b || more) ≡ false → (more ≡ false → m ≡ l + z) → cond (not b) (1 + m) 0 ≡ suc l + z
past_one true more m l z h k = cc
past_one false more m l z h k = omega (arith, k h)

-- where none of the first list passes, the first place is in the second
past_first : (p : ℕ → Bool) (xs ys : List ℕ) → list_any p xs ≡ false → position_or_len p (xs ++ ys) ≡ length xs + position_or_len p ys
past_first p [] ys h = omega arith
past_first p (x ∷ xs) ys h = past_one (p x) (list_any p xs) (position_or_len p (xs ++ ys)) (length xs) (position_or_len p ys) h (past_first p xs ys)

-- how many chunks come before the first in which an element passes
abbrev pub chunks_before : (ℕ → Bool) → List (List ℕ) → ℕ
chunks_before p chunks = prefix_len (λ chunk. not (list_any p chunk)) chunks

-- the first place is not before start
abbrev pub IsSkip : (ℕ → Bool) → List ℕ → ℕ → Type 0
IsSkip p xs start = (start ≤ length xs) × (position_or_len p xs ≡ start + position_or_len p (drop start xs))

skip_none : (p : ℕ → Bool) (xs : List ℕ) (start : ℕ) → start ≡ 0 → IsSkip p xs start
skip_none p xs start e = subst (IsSkip p xs) (sym e) (omega arith, omega arith)

skip_chunk : (p : ℕ → Bool) (n m : ℕ) (xs : List ℕ) → n ≤ length xs → IsSkip p (drop n xs) (n * m) → (b : Bool) → list_any p (take n xs) ≡ b → IsSkip p xs (n * cond (not b) (1 + m) 0)
skip_chunk p n m xs le rest true e = skip_none p xs (n * 0) (omega arith)
skip_chunk p n m xs le rest false e =
    let long : length (take n xs) ≡ n = length-chunk 0 n xs (omega arith) in
    let one : position_or_len p xs ≡ length (take n xs) + position_or_len p (drop n xs) = ap (position_or_len p) (sym (take-append-drop n xs)) ∙ past_first p (take n xs) (drop n xs) e in
    let two : position_or_len p (drop (n * m) (drop n xs)) ≡ position_or_len p (drop (n * (1 + m)) xs) = ap (position_or_len p) (drop-drop (n * m) n xs ∙ ap (λ j. drop j xs) (omega arith)) in
    (omega (arith, length-drop n xs, rest.0), omega (arith, one, two, rest.1, long))

-- the first place is not in the chunks that are skipped
pub skips : (p : ℕ → Bool) (n k : ℕ) (xs : List ℕ) → k * n ≤ length xs → IsSkip p xs (n * chunks_before p (first_chunks n k xs))
skips p n zero xs h = skip_none p xs (n * 0) (omega arith)
skips p n (suc k) xs h = skip_chunk p n (chunks_before p (first_chunks n k (drop n xs))) xs (omega arith) (skips p n k (drop n xs) (omega (arith, length-drop n xs))) (list_any p (take n xs)) refl

moved : (s q l : ℕ) (b : Bool) → ltb q l ≡ b → option_map (λ place. s + place) (cond b (Some q) None) ≡ cond (ltb (s + q) (s + l)) (Some (s + q)) None
moved s q l true e = let f : ltb (s + q) (s + l) ≡ true = grind (arith, nat_tests) in rw f
moved s q l false e = let f : ltb (s + q) (s + l) ≡ false = grind (arith, nat_tests) in rw f

-- the first place, looked for from the end of the skipped chunks on
pub position-skips : (p : ℕ → Bool) (xs : List ℕ) (start : ℕ) → IsSkip p xs start → (found : Option ℕ)
    → found ≡ position p (take (length xs - start) (drop start xs)) → option_map (λ place. start + place) found ≡ position p xs
position-skips p xs start h found e =
    let q : ℕ = position_or_len p (drop start xs) in
    let rest : length (drop start xs) ≡ length xs - start = length-drop start xs in
    let long : start + length (drop start xs) ≡ length xs = omega (arith, rest, h.0) in
    ap (option_map (λ place. start + place)) (e ∙ ap (position p) (take_rest xs start))
    ∙ moved start q (length (drop start xs)) (ltb q (length (drop start xs))) refl
    ∙ ap (λ l. cond (ltb (start + q) l) (Some (start + q)) None) long
    ∙ ap (λ j. cond (ltb j (length xs)) (Some j) None) (sym h.1)
