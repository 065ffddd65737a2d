-- What is found is the first checkpoint whose shape came before, and nothing is found where there is none.
use Rattle.std.proofs.Common.{◌≡◌, ℕ, suc, zero, ◌+◌, ◌-◌, ◌*◌, ◌<◌, ◌≤◌, Bool, true, false, List, [], ◌∷◌, ◌++◌, map, Option, Some, None, refl, ap, sym, ◌∙◌, subst, inl, inr, arith, nat_le, append-nil, append_assoc}
use Rattle.std.specs.List.{find, range_with_len}
use Rattle.std.specs.Option.{option_map, option_or}
use Rattle.std.proofs.Math.Nat.{add-mul, le_of_mul-le-mul_right, mul-le-mul_right}
use Rattle.std.proofs.lemmas.Bool.{and_from, and_parts, cases_Bool, cases_eq, cases_lt, leb-true, le-leb}
use Rattle.tw_model.specs.Case.{Case}
use Rattle.tw_sim.proofs.Members.{In, in_find, in_map, in_mapped, in_range, range_has}
use Rattle.tw_shape.specs.declared.verdict.Finding.{Finding}
use Rattle.tw_shape.specs.Shape.{can_repeat, shape}
use Rattle.tw_shape.specs.Same.{same_shape}
use Rattle.tw_shape.specs.Verdict.{Checkpoint, ComesAgain, IsFirst, checkpoint, checkpoints, finding, first_found, found_at, is_again, since}
use Rattle.tw_shape.proofs.Firsts.{range_push}
use Rattle.tw_shape.proofs.Sameness.{shape_decides}

-- what is found at checkpoints in two parts
pub first_found-append : (every : ℕ) (before xs ys : List Checkpoint)
    → first_found every before (xs ++ ys) ≡ option_or (first_found every before xs) (first_found every (before ++ xs) ys)
first_found-append every before [] ys = ap (λ l. first_found every l ys) (sym (append-nil before))
first_found-append every before (x ∷ xs) ys =
    ap (option_or (found_at every before x)) (first_found-append every (before ++ x ∷ []) xs ys
    ∙ ap (λ l. option_or (first_found every (before ++ x ∷ []) xs) (first_found every l ys)) (append_assoc before (x ∷ []) xs))
    ∙ sym (option_or_assoc (found_at every before x) (first_found every (before ++ x ∷ []) xs) (first_found every (before ++ x ∷ xs) ys)) where
      option_or_assoc : (a b c : Option Finding) → option_or (option_or a b) c ≡ option_or a (option_or b c)
      option_or_assoc None b c = refl
      option_or_assoc (Some f) b c = refl

pub range_append : {X : Type 0} (f : ℕ → X) (a n k b : ℕ) → b ≡ a + n → map f (range_with_len a n) ++ map f (range_with_len b k) ≡ map f (range_with_len a (n + k))
range_append f a zero k b is =
    let e : b ≡ a = omega arith in
    let n : k ≡ 0 + k = omega arith in
    ap (λ x. map f (range_with_len x k)) e ∙ ap (λ x. map f (range_with_len a x)) n
range_append f a (suc n) k b is =
    let e : suc (n + k) ≡ suc n + k = omega arith in
    ap (λ l. f a ∷ l) (range_append f (a + 1) n k b (omega arith)) ∙ ap (λ x. map f (range_with_len a x)) e

passes : {X : Type 0} (p : X → Bool) (x : X) (xs : List X) → p x ≡ true → In x xs → find p xs ≡ None → ⊥
passes p x [] h there none = there
passes p x (y ∷ xs) h (inl is) none = let k : p y ≡ true = ap p (sym is) ∙ h in let l = rw k at none in cc
passes p x (y ∷ xs) h (inr there) none =
    elim (cases_Bool (p y)) [
      | inl b ↦ let l = rw b at none in cc
      | inr b ↦ passes p x xs h there (rw b at none)
    ]

times_less : (a b n : ℕ) → b ≤ a → a * n - b * n ≡ (a - b) * n
times_less a b n le =
    let parts = add-mul (a - b) b n in
    let whole : (a - b + b) * n ≡ a * n = ap (λ k. k * n) (omega arith) in
    omega arith

module _ (case : Case) (every : ℕ) (some : 0 < every) where
  abbrev nth : ℕ → Checkpoint
  nth k = checkpoint case every k

  -- what is found at checkpoint j by those before it
  abbrev found : ℕ → Option Finding
  found j = found_at every (map nth (range_with_len 1 (j - 1))) (nth j)

  -- ---- at one checkpoint

  found_some : (j : ℕ) (f : Finding) → found j ≡ Some f → (i : ℕ) × ComesAgain case every i j × (f ≡ since (nth j) (nth i))
  found_some j f h = can (can_repeat (nth j).shape) refl where
    at : can_repeat (nth j).shape ≡ true → (o : Option Checkpoint) → find (is_again every (nth j)) (map nth (range_with_len 1 (j - 1))) ≡ o → option_map (since (nth j)) o ≡ Some f
        → (i : ℕ) × ComesAgain case every i j × (f ≡ since (nth j) (nth i))
    at c None e k = cc
    at c (Some a) e k =
        let there = in_find (is_again every (nth j)) a (map nth (range_with_len 1 (j - 1))) e in
        let place = in_map nth a (range_with_len 1 (j - 1)) there.1 in
        let number = in_range place.0 1 (j - 1) place.2 in
        let again : is_again every (nth j) (nth place.0) ≡ true = ap (is_again every (nth j)) (sym place.1) ∙ there.0 in
        let parts = and_parts (nat_le (j * every) (place.0 * every + 64 * every)) (same_shape (nth place.0).shape (nth j).shape) again in
        let near : j * every ≤ (place.0 + 64) * every = (let n = leb-true (j * every) (place.0 * every + 64 * every) parts.0 in omega arith) in
        let is : f ≡ since (nth j) (nth place.0) = (let l : since (nth j) a ≡ f = cc in sym l ∙ ap (since (nth j)) place.1) in (
          place.0,
          record {
            some = number.0;
            later = omega arith;
            near = le_of_mul-le-mul_right near some;
            can = c;
            same = (shape_decides (nth place.0).shape (nth j).shape).0 parts.1;
          },
          is,
        )

    can : (b : Bool) → can_repeat (nth j).shape ≡ b → (i : ℕ) × ComesAgain case every i j × (f ≡ since (nth j) (nth i))
    can false e = let none : found j ≡ None = rw e refl in cc
    can true e =
        at e (find (is_again every (nth j)) (map nth (range_with_len 1 (j - 1)))) refl
        (let k : found j ≡ option_map (since (nth j)) (find (is_again every (nth j)) (map nth (range_with_len 1 (j - 1)))) = rw e refl in sym k ∙ h)

  found_none : (j : ℕ) → found j ≡ None → (i : ℕ) → ComesAgain case every i j → ⊥
  found_none j h i again = at (find (is_again every (nth j)) (map nth (range_with_len 1 (j - 1)))) refl where
    test : is_again every (nth j) (nth i) ≡ true
    test =
        let near : j * every ≤ i * every + 64 * every = (let n = mul-le-mul_right every again.near in omega arith) in
        and_from (nat_le (j * every) (i * every + 64 * every)) (same_shape (nth i).shape (nth j).shape)
        (le-leb (j * every) (i * every + 64 * every) near) ((shape_decides (nth i).shape (nth j).shape).1 again.same)

    there : In (nth i) (map nth (range_with_len 1 (j - 1)))
    there = in_mapped nth i (range_with_len 1 (j - 1)) (let a = again.some in let b = again.later in range_has i 1 (j - 1) (omega arith) (omega arith))

    at : (o : Option Checkpoint) → find (is_again every (nth j)) (map nth (range_with_len 1 (j - 1))) ≡ o → ⊥
    at None e = passes (is_again every (nth j)) (nth i) (map nth (range_with_len 1 (j - 1))) test there e
    at (Some a) e = let k : found j ≡ Some (since (nth j) a) = rw (again.can, e) refl in cc

  -- ---- at one after the other

  abbrev upto : ℕ → List Checkpoint
  upto k = map nth (range_with_len 1 k)

  abbrev first_from : ℕ → ℕ → Option Finding
  first_from k n = first_found every (upto k) (map nth (range_with_len (k + 1) n))

  first_step : (k n : ℕ) → first_from k (suc n) ≡ option_or (found (k + 1)) (first_from (k + 1) n)
  first_step k n =
      let more : upto k ++ nth (k + 1) ∷ [] ≡ upto (k + 1) = range_push nth 1 k (k + 1) (omega arith) ∙ ap upto (let e : suc k ≡ k + 1 = omega arith in e) in
      let less : k ≡ k + 1 - 1 = omega arith in
      (λ i. option_or (found_at every (upto (less i)) (nth (k + 1))) (first_found every (more i) (map nth (range_with_len (k + 1 + 1) n))))

  -- the first checkpoint at which something is found
  record IsFound (k n : ℕ) (f : Finding) : Type 0 where
    at : ℕ
    after : k < at
    within : at ≤ k + n
    is : found at ≡ Some f
    none : (i : ℕ) → k < i → i < at → found i ≡ None

  first_some : (k n : ℕ) (f : Finding) → first_from k n ≡ Some f → IsFound k n f
  first_some k zero f h = cc
  first_some k (suc n) f h = go (λ g. first_some (k + 1) n f g) (found (k + 1)) refl (sym (first_step k n) ∙ h) where
    go : (first_from (k + 1) n ≡ Some f → IsFound (k + 1) n f) → (o : Option Finding) → found (k + 1) ≡ o → option_or o (first_from (k + 1) n) ≡ Some f → IsFound k (suc n) f
    go rest (Some g) e same = record {
      at = k + 1;
      after = omega arith;
      within = omega arith;
      is = e ∙ same;
      none = λ i low up. absurd (omega arith);
    }
    go rest None e same =
        let more = rest same in
        let after = more.after in
        let within = more.within in
        record {
          at = more.at;
          after = omega arith;
          within = omega arith;
          is = more.is;
          none = λ i low up. elim (cases_eq i (k + 1)) [
            | inl is ↦ subst (λ z. found z ≡ None) (sym is) e
            | inr not_it ↦ more.none i (omega arith) up
          ];
        }

  first_none : (k n : ℕ) → first_from k n ≡ None → (j : ℕ) → k < j → j ≤ k + n → found j ≡ None
  first_none k zero h j low up = absurd (omega arith)
  first_none k (suc n) h j low up = go (λ g low up. first_none (k + 1) n g j low up) (found (k + 1)) refl (sym (first_step k n) ∙ h) where
    go : (first_from (k + 1) n ≡ None → k + 1 < j → j ≤ k + 1 + n → found j ≡ None) → (o : Option Finding) → found (k + 1) ≡ o → option_or o (first_from (k + 1) n) ≡ None → found j ≡ None
    go rest (Some g) e same = cc
    go rest None e same = elim (cases_eq j (k + 1)) [
      | inl is ↦ subst (λ z. found z ≡ None) (sym is) e
      | inr not_it ↦ rest same (omega arith) (omega arith)
    ]

  -- ---- the verdict's finding

  -- what is found is first
  pub finding_first : (n : ℕ) (f : Finding) → finding case every n ≡ Some f → IsFirst case every n f
  finding_first n f h =
      let it = first_some 0 n f h in
      let seen = found_some it.at f it.is in
      let later = seen.1.later in
      let within = it.within in
      let gap = times_less it.at seen.0 every (omega arith) in
      record {
        old = seen.0;
        new = it.at;
        again = seen.1;
        within = omega arith;
        none = λ i j less again. found_none j (it.none j (let a = again.some in let b = again.later in omega arith) less) i again;
        from = ap (λ g. g.from) seen.2;
        period = ap (λ g. g.period) seen.2 ∙ gap;
      }

  -- and where nothing is, no shape came before
  pub finding_none : (n : ℕ) → finding case every n ≡ None → (i j : ℕ) → j ≤ n → ComesAgain case every i j → ⊥
  finding_none n h i j le again =
      found_none j (first_none 0 n h j (let a = again.some in let b = again.later in omega arith) (omega arith)) i again

  -- of two checkpoints with the shape of a third the later one would have shown it before
  same_old : (i k j : ℕ) → ComesAgain case every i j → ComesAgain case every k j → ((a b : ℕ) → b < j → ComesAgain case every a b → ⊥) → i < k → ⊥
  same_old i k j one two none less =
      let same : shape case (i * every) ≡ shape case (k * every) = one.same ∙ sym two.same in
      let near = one.near in
      let later = two.later in
      none i k later (record { some = one.some; later = less; near = omega arith; can = ap can_repeat two.same ∙ two.can; same = same })

  -- there is one first finding at most
  pub first_unique : (n : ℕ) (f g : Finding) → IsFirst case every n f → IsFirst case every n g → f ≡ g
  first_unique n f g one two =
      let new : one.new ≡ two.new = elim (cases_lt one.new two.new) [
        | inl l ↦ absurd (two.none one.old one.new l one.again)
        | inr l ↦ elim (cases_lt two.new one.new) [
          | inl k ↦ absurd (one.none two.old two.new k two.again)
          | inr k ↦ omega arith
        ]
      ] in
      let again : ComesAgain case every two.old one.new = subst (λ j. ComesAgain case every two.old j) (sym new) two.again in
      let old : one.old ≡ two.old = elim (cases_lt one.old two.old) [
        | inl l ↦ absurd (same_old one.old two.old one.new one.again again one.none l)
        | inr l ↦ elim (cases_lt two.old one.old) [
          | inl k ↦ absurd (same_old two.old one.old one.new again one.again one.none k)
          | inr k ↦ omega arith
        ]
      ] in
      let from : f.from ≡ g.from = one.from ∙ ap (λ k. k * every) old ∙ sym two.from in
      let period : f.period ≡ g.period = one.period ∙ (λ i. (new i - old i) * every) ∙ sym two.period in
      λ i. record { from = from i; period = period i }

-- what was found stays found
pub finding_stays : (case : Case) (every n k : ℕ) (f : Finding) → finding case every n ≡ Some f → finding case every (n + k) ≡ Some f
finding_stays case every n k f h =
    ap (first_found every []) (sym (range_append (checkpoint case every) 1 n k (n + 1) (omega arith)))
    ∙ first_found-append every [] (checkpoints case every n) (map (checkpoint case every) (range_with_len (n + 1) k))
    ∙ ap (λ o. option_or o (first_found every (checkpoints case every n) (map (checkpoint case every) (range_with_len (n + 1) k)))) h
