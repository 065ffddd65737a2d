-- A path looked for by the hash of its nodes without the first.
use Rattle.std.proofs.Common.{◌≡◌, ℕ, suc, ◌+◌, ◌-◌, ◌<◌, ◌==◌, Bool, true, false, List, [], ◌∷◌, length, map, get_or, take, drop, Some, None, refl, ap, sym, ◌∙◌, inl, inr, arith, nat_lt}
use Rattle.std.specs.List.{find, position, position_or_len}
use Rattle.std.proofs.lemmas.Bool.{both_ways, cases_Bool, eq-eqb, false_from_ne_true, ltb-false, ltb-true}
use Rattle.std.proofs.lemmas.List.{at_drop_all, at_drop_more, drop-drop, drop-map, length-drop, length-map, take_rest}
use Rattle.tw_event.specs.declared.event.PathNo.{PathNo}
use Rattle.tw_model.specs.Net.{Net, path, same_path}
use Rattle.tw_instance.specs.Tables.{hash, tail_hash}
use Rattle.tw_model.proofs.Paths.{same_path_is}

-- what passes the test has the hash
abbrev IsHashed : (PathNo → Bool) → (PathNo → ℕ) → ℕ → Type 0
IsHashed test f k = (q : PathNo) → test q ≡ true → f q ≡ k

fails : (test : PathNo → Bool) (f : PathNo → ℕ) (k : ℕ) → IsHashed test f k → (q : PathNo) → (f q == k) ≡ false → test q ≡ false
fails test f k made_of_hash q other = false_from_ne_true (test q) (λ t. both_ways (f q == k) other (eq-eqb (f q) k (made_of_hash q t)))

-- what stands before the first of the hash is passed over
passes_over : (test : PathNo → Bool) (f : PathNo → ℕ) (k : ℕ) → IsHashed test f k → (xs : List PathNo)
    → find test (drop (position_or_len (λ o. o == k) (map f xs)) xs) ≡ find test xs
passes_over test f k made_of_hash [] = refl
passes_over test f k made_of_hash (x ∷ xs) =
    elim (cases_Bool (f x == k)) [
      | inl t ↦ rw t refl
      | inr other ↦ (
          let n = position_or_len (λ o. o == k) (map f xs) in
          let e : 1 + n ≡ suc n = omega arith in
          rw (other, e, fails test f k made_of_hash x other) (passes_over test f k made_of_hash xs))
    ]

-- a place that was found is the first
first_place : (p : ℕ → Bool) (ks : List ℕ) (j : ℕ) → Some j ≡ position p ks → (j ≡ position_or_len p ks) × (j < length ks)
first_place p ks j e =
    elim (cases_Bool (nat_lt (position_or_len p ks) (length ks))) [
      | inl t ↦ (
          let found : position p ks ≡ Some (position_or_len p ks) = rw t refl in
          let is : j ≡ position_or_len p ks = cc in
          let below = ltb-true (position_or_len p ks) (length ks) t in
          (is, omega arith))
      | inr f ↦ (let none : position p ks ≡ None = rw f refl in absurd (cc))
    ]

pub no_place : (p : ℕ → Bool) (ks : List ℕ) → None ≡ position p ks → length ks < 1 + position_or_len p ks
no_place p ks e =
    elim (cases_Bool (nat_lt (position_or_len p ks) (length ks))) [
      | inl t ↦ (let found : position p ks ≡ Some (position_or_len p ks) = rw t refl in absurd (cc))
      | inr f ↦ (let past = ltb-false (position_or_len p ks) (length ks) f in omega arith)
    ]

-- the hashes behind a place are those of the paths there
hashes_behind : (f : PathNo → ℕ) (xs : List PathNo) (hashes : List ℕ) (n : ℕ) → hashes ≡ map f xs → take (length hashes - n) (drop n hashes) ≡ map f (drop n xs)
hashes_behind f xs hashes n is = take_rest hashes n ∙ (ap (drop n) is ∙ drop-map f n xs)

abbrev is_made_of : Net → ℕ → List ℕ → PathNo → Bool
is_made_of net v p q = same_path (path net q) (v ∷ p)

made_of_hash : (net : Net) (v : ℕ) (p : List ℕ) (k : ℕ) → k ≡ hash p → IsHashed (is_made_of net v p) (tail_hash net) k
made_of_hash net v p k e q t = ap (λ r. hash (drop 1 r)) (same_path_is (path net q) (v ∷ p) t) ∙ sym e

-- the first of the hash among the paths behind place n stands j further on
pub record IsFirst (net : Net) (v : ℕ) (p : List ℕ) (xs : List PathNo) (n j : ℕ) (d : PathNo) : Type 0 where
  pub within : n + j < length xs
  pub here : is_made_of net v p (get_or xs (n + j) d) ≡ true → find (is_made_of net v p) (drop n xs) ≡ Some (get_or xs (n + j) d)
  pub later : is_made_of net v p (get_or xs (n + j) d) ≡ false → find (is_made_of net v p) (drop n xs) ≡ find (is_made_of net v p) (drop (n + (j + 1)) xs)

pub is_first : (net : Net) (v : ℕ) (p : List ℕ) (k : ℕ) (xs : List PathNo) (hashes : List ℕ) (n j : ℕ) (d : PathNo) → k ≡ hash p → hashes ≡ map (tail_hash net) xs
    → Some j ≡ position (λ o. o == k) (take (length hashes - n) (drop n hashes)) → IsFirst net v p xs n j d
is_first net v p k xs hashes n j d e is found =
    let test = is_made_of net v p in
    let behind = drop n xs in
    let at = first_place (λ o. o == k) (map (tail_hash net) behind) j (found ∙ ap (position (λ o. o == k)) (hashes_behind (tail_hash net) xs hashes n is)) in
    let below : n + j < length xs = omega (arith, length-map behind (tail_hash net), length-drop n xs) in
    let over : find test behind ≡ find test (get_or xs (n + j) d ∷ drop (n + j + 1) xs) =
    sym (passes_over test (tail_hash net) k (made_of_hash net v p k e) behind)
    ∙ (ap (λ m. find test (drop m behind)) (sym at.0) ∙ (ap (find test) (drop-drop j n xs) ∙ at_drop_more (find test) xs (n + j) d below)) in
    let next : n + j + 1 ≡ n + (j + 1) = omega arith in
    record {
      within = below;
      here = λ t. over ∙ rw t refl;
      later = λ f. over ∙ rw (f, next) refl;
    }

-- where the hash is not found behind place n, nor is the path
pub is_none : (net : Net) (v : ℕ) (p : List ℕ) (k : ℕ) (xs : List PathNo) (hashes : List ℕ) (n : ℕ) → k ≡ hash p → hashes ≡ map (tail_hash net) xs
    → None ≡ position (λ o. o == k) (take (length hashes - n) (drop n hashes)) → find (is_made_of net v p) (drop n xs) ≡ None
is_none net v p k xs hashes n e is none =
    let test = is_made_of net v p in
    let behind = drop n xs in
    let past = no_place (λ o. o == k) (map (tail_hash net) behind) (none ∙ ap (position (λ o. o == k)) (hashes_behind (tail_hash net) xs hashes n is)) in
    sym (passes_over test (tail_hash net) k (made_of_hash net v p k e) behind)
    ∙ at_drop_all (find test) behind (position_or_len (λ o. o == k) (map (tail_hash net) behind)) (omega (arith, length-map behind (tail_hash net)))
