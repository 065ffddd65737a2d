-- Where an element of all chunks stands, and what taking it out and joining chunks leaves.
use Rattle.std.proofs.Common.{◌≡◌, ℕ, zero, suc, ◌+◌, ◌-◌, ◌<◌, ◌≤◌, List, [], ◌∷◌, ◌++◌, append_assoc, get_or, length, remove, set, slice_get, take, refl, ap, sym, ◌∙◌, arith}
use Rattle.std.proofs.lemmas.List.{append-nil, length-append, take_all}
use Rattle.std.proofs.lemmas.List.Edits.{remove-append_left, remove-append_right}
use Rattle.std.specs.declared.vec.Vec.{Vec}
use Rattle.tw_warp.specs.Flight.{all_of}

-- what stands before others is read where it stood
pub before_others : {A : Type 0} (xs ys : List A) (k : ℕ) → k < length xs → slice_get (xs ++ ys) k ≡ slice_get xs k
before_others [] ys k within = absurd (omega arith)
before_others (x ∷ xs) ys zero within = refl
before_others (x ∷ xs) ys (suc k) within = before_others xs ys k (omega arith)

-- what stands behind others is read so much later
behind_others : {A : Type 0} (xs ys : List A) (i j : ℕ) → i ≡ length xs + j → slice_get (xs ++ ys) i ≡ slice_get ys j
behind_others [] ys i j is = ap (slice_get ys) (omega arith)
behind_others (x ∷ xs) ys zero j is = absurd (omega arith)
behind_others (x ∷ xs) ys (suc i) j is = behind_others xs ys i j (omega arith)

module _ {X Z : Type 0} where
  next_all : (chunks : List (Vec X Z)) (i : ℕ) (d : Vec X Z) → i < length chunks → all_of (take (suc i) chunks) ≡ all_of (take i chunks) ++ (get_or chunks i d).items
  next_all [] i d within = absurd (omega arith)
  next_all (c ∷ chunks) zero d within = append-nil c.items
  next_all (c ∷ chunks) (suc i) d within =
      ap (λ xs. c.items ++ xs) (next_all chunks i d (omega arith)) ∙ sym (append_assoc c.items (all_of (take i chunks)) (get_or chunks i d).items)

  -- one chunk more
  pub one_more_chunk : (chunks : List (Vec X Z)) (i : ℕ) (d : Vec X Z) → i < length chunks → all_of (take (i + 1) chunks) ≡ all_of (take i chunks) ++ (get_or chunks i d).items
  one_more_chunk chunks i d within = let more : i + 1 ≡ suc i = omega arith in ap (λ n. all_of (take n chunks)) more ∙ next_all chunks i d within

  -- ---- an element of a chunk

  pub found : (chunks : List (Vec X Z)) (rest : List X) (k j i : ℕ) (d : Vec X Z) → length (all_of (take k chunks)) + j ≡ i → k < length chunks
      → j < length (get_or chunks k d).items → slice_get (all_of chunks ++ rest) i ≡ slice_get (get_or chunks k d).items j
  found [] rest k j i d at within there = absurd (omega arith)
  found (c ∷ chunks) rest zero j i d at within there =
      let same : i ≡ j = omega arith in
      ap (λ xs. slice_get xs i) (append_assoc c.items (all_of chunks) rest) ∙ (before_others c.items (all_of chunks ++ rest) i (omega arith) ∙ ap (slice_get c.items) same)
  found (c ∷ chunks) rest (suc k) j i d at within there =
      let both = length-append c.items (all_of (take k chunks)) in
      ap (λ xs. slice_get xs i) (append_assoc c.items (all_of chunks) rest)
      ∙ (behind_others c.items (all_of chunks ++ rest) i (i - length c.items) (omega arith)
      ∙ found chunks rest k j (i - length c.items) d (omega arith) (omega arith) there)

  pub taken_out : (chunks : List (Vec X Z)) (rest : List X) (k j i : ℕ) (d v : Vec X Z) → length (all_of (take k chunks)) + j ≡ i → k < length chunks
      → j < length (get_or chunks k d).items → v.items ≡ remove (get_or chunks k d).items j → all_of (set chunks k v) ++ rest ≡ remove (all_of chunks ++ rest) i
  taken_out [] rest k j i d v at within there is = absurd (omega arith)
  taken_out (c ∷ chunks) rest zero j i d v at within there is =
      let same : j ≡ i = omega arith in
      append_assoc v.items (all_of chunks) rest
      ∙ (ap (λ xs. xs ++ (all_of chunks ++ rest)) (is ∙ ap (remove c.items) same)
      ∙ (sym (remove-append_left c.items (all_of chunks ++ rest) i (omega arith)) ∙ ap (λ xs. remove xs i) (sym (append_assoc c.items (all_of chunks) rest))))
  taken_out (c ∷ chunks) rest (suc k) j i d v at within there is =
      let both = length-append c.items (all_of (take k chunks)) in
      append_assoc c.items (all_of (set chunks k v)) rest
      ∙ (ap (λ xs. c.items ++ xs) (taken_out chunks rest k j (i - length c.items) d v (omega arith) (omega arith) there is)
      ∙ (sym (remove-append_right c.items (all_of chunks ++ rest) (length c.items) i refl (omega arith)) ∙ ap (λ xs. remove xs i) (sym (append_assoc c.items (all_of chunks) rest))))

  -- ---- an element behind all chunks

  past : (chunks : List (Vec X Z)) (k j i : ℕ) → length (all_of (take k chunks)) + j ≡ i → length chunks ≤ k → i ≡ length (all_of chunks) + j
  past chunks k j i at beyond = let all = ap (λ cs. length (all_of cs)) (take_all k chunks beyond) in omega arith

  pub found_behind : (chunks : List (Vec X Z)) (rest : List X) (k j i : ℕ) → length (all_of (take k chunks)) + j ≡ i → length chunks ≤ k
      → slice_get (all_of chunks ++ rest) i ≡ slice_get rest j
  found_behind chunks rest k j i at beyond = behind_others (all_of chunks) rest i j (past chunks k j i at beyond)

  pub taken_behind : (chunks : List (Vec X Z)) (rest : List X) (k j i : ℕ) → length (all_of (take k chunks)) + j ≡ i → length chunks ≤ k
      → all_of chunks ++ remove rest j ≡ remove (all_of chunks ++ rest) i
  taken_behind chunks rest k j i at beyond =
      let is = past chunks k j i at beyond in
      let left : j ≡ i - length (all_of chunks) = omega arith in
      ap (λ n. all_of chunks ++ remove rest n) left ∙ sym (remove-append_right (all_of chunks) rest (length (all_of chunks)) i refl (omega arith))

  -- it is one of those behind
  pub there_behind : (chunks : List (Vec X Z)) (rest : List X) (k j i : ℕ) → length (all_of (take k chunks)) + j ≡ i → length chunks ≤ k
      → i < length (all_of chunks ++ rest) → j < length rest
  there_behind chunks rest k j i at beyond within = let is = past chunks k j i at beyond in let both = length-append (all_of chunks) rest in omega arith

  -- ---- two chunks that become one

  -- a chunk with the same items
  pub same_at : (chunks : List (Vec X Z)) (k : ℕ) (d v : Vec X Z) → k < length chunks → v.items ≡ (get_or chunks k d).items → all_of (set chunks k v) ≡ all_of chunks
  same_at [] k d v within is = absurd (omega arith)
  same_at (c ∷ chunks) zero d v within is = ap (λ xs. xs ++ all_of chunks) is
  same_at (c ∷ chunks) (suc k) d v within is = ap (λ xs. c.items ++ xs) (same_at chunks k d v (omega arith) is)

  joined_next : (chunks : List (Vec X Z)) (k : ℕ) (d e v : Vec X Z) → suc k < length chunks
      → v.items ≡ (get_or (remove chunks (suc k)) k d).items ++ (get_or chunks (suc k) e).items → all_of (set (remove chunks (suc k)) k v) ≡ all_of chunks
  joined_next [] k d e v within is = absurd (omega arith)
  joined_next (c ∷ []) k d e v within is = absurd (omega arith)
  joined_next (c ∷ n ∷ chunks) zero d e v within is = ap (λ xs. xs ++ all_of chunks) is ∙ append_assoc c.items n.items (all_of chunks)
  joined_next (c ∷ n ∷ chunks) (suc k) d e v within is = ap (λ xs. c.items ++ xs) (joined_next (n ∷ chunks) k d e v (omega arith) is)

  pub joined_at : (chunks : List (Vec X Z)) (k m : ℕ) (d e v : Vec X Z) → m ≡ k + 1 → m < length chunks
      → v.items ≡ (get_or (remove chunks m) k d).items ++ (get_or chunks m e).items → all_of (set (remove chunks m) k v) ≡ all_of chunks
  joined_at chunks k m d e v next within is =
      let up : m ≡ suc k = omega arith in
      ap (λ n. all_of (set (remove chunks n) k v)) up
      ∙ joined_next chunks k d e v (omega arith) (is ∙ ap (λ n. (get_or (remove chunks n) k d).items ++ (get_or chunks n e).items) up)
