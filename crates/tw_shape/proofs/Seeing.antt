-- A watch that has seen checkpoints 1 to n of a case has found what is found first there.
use Rattle.std.proofs.Common.{◌≡◌, ℕ, suc, zero, ◌+◌, ◌-◌, ◌*◌, ◌<◌, ◌≤◌, false, List, [], ◌∷◌, ◌++◌, drop, length, map, None, refl, ap, sym, ◌∙◌, subst, ◌⊎◌, inl, inr, arith, nat_le, append-nil, append_assoc, length-drop, if◌then◌else◌}
use Rattle.std.specs.List.{All, find, flat_map, range_with_len}
use Rattle.std.specs.Option.{option_map, option_or}
use Rattle.std.proofs.Math.Nat.{add-mul, mul-le-mul_right}
use Rattle.std.proofs.lemmas.Bool.{and_parts, cases_lt, false_from_ne_true, leb-true}
use Rattle.std.proofs.lemmas.List.{length-append, length-map}
use Rattle.std.proofs.lemmas.List.Folds.{find-append}
use Rattle.circular_buffer.specs.Buffer.{keep_last}
use Rattle.tw_model.specs.Case.{Case, IsCase}
use Rattle.tw_sim.proofs.Members.{In, all_from_in, in_append, in_from_all, in_map, in_range}
use Rattle.tw_shape.specs.declared.watch.Gap.{Gap}
use Rattle.tw_shape.specs.Shape.{IsStill, can_repeat, shape}
use Rattle.tw_shape.specs.Verdict.{Checkpoint, checkpoint, finding, first_found, found_at, is_again, since}
use Rattle.tw_shape.specs.Watch.{HasSeen, IsGap, Watch, after_first, case_gap, fresh, gap, gap_checkpoints, nothing, checkpoints_in, with_gap}
use Rattle.tw_shape.proofs.Findings.{first_found-append, range_append}
use Rattle.tw_shape.proofs.Searching.{in_drop}
use Rattle.tw_shape.proofs.Stillness.{still_shape}

-- ---- lists

module _ {X : Type 0} (f : ℕ → X) where
  -- what follows the first of a range is a range
  rest_range : (xs ys : List X) (a n : ℕ) → xs ++ ys ≡ map f (range_with_len a n) → (length xs ≤ n) × (ys ≡ map f (range_with_len (a + length xs) (n - length xs)))
  rest_range [] ys a n h =
      let e : a ≡ a + 0 = omega arith in
      let k : n ≡ n - 0 = omega arith in
      (omega arith, h ∙ (λ i. map f (range_with_len (e i) (k i))))
  rest_range (x ∷ xs) ys a zero h = cc
  rest_range (x ∷ xs) ys a (suc n) h =
      let tail : xs ++ ys ≡ map f (range_with_len (a + 1) n) = cc in
      let r = rest_range xs ys (a + 1) n tail in
      let le = r.0 in
      let e : a + 1 + length xs ≡ a + suc (length xs) = omega arith in
      let k : n - length xs ≡ suc n - suc (length xs) = omega arith in
      (omega arith, r.1 ∙ (λ i. map f (range_with_len (e i) (k i))))

  map_range : (g : ℕ → X) (a b n : ℕ) → ((k : ℕ) → k < n → f (a + k) ≡ g (b + k)) → map f (range_with_len a n) ≡ map g (range_with_len b n)
  map_range g a b zero h = refl
  map_range g a b (suc n) h =
      let head : f a ≡ g b = (let e : a ≡ a + 0 = omega arith in let k : b + 0 ≡ b = omega arith in ap f e ∙ h 0 (omega arith) ∙ ap g k) in
      let tail = map_range g (a + 1) (b + 1) n (λ k l.
      let e : a + 1 + k ≡ a + suc k = omega arith in
      let d : b + suc k ≡ b + 1 + k = omega arith in
      ap f e ∙ h (suc k) (omega arith) ∙ ap g d) in
      cc

range-length : (a n : ℕ) → length (range_with_len a n) ≡ n
range-length a zero = refl
range-length a (suc n) = ap suc (range-length (a + 1) n)

drop_to : {X : Type 0} (n : ℕ) (xs : List X) → n ≤ length xs → length (drop n xs) ≡ length xs - n
drop_to n xs le = let k = length-drop n xs in omega arith

flat_append : {X Y : Type 0} (f : X → List Y) (xs ys : List X) → flat_map f (xs ++ ys) ≡ flat_map f xs ++ flat_map f ys
flat_append f [] ys = refl
flat_append f (x ∷ xs) ys = ap (λ l. f x ++ l) (flat_append f xs ys) ∙ sym (append_assoc (f x) (flat_map f xs) (flat_map f ys))

-- ---- checkpoints that are too old

module _ (every : ℕ) where
  -- those of which none shows what is looked for change nothing
  found_drop : (older before : List Checkpoint) (b : Checkpoint) → ((a : Checkpoint) → In a older → is_again every b a ≡ false) → found_at every (older ++ before) b ≡ found_at every before b
  found_drop older before b old =
      ap (λ o. if can_repeat b.shape then option_map (since b) o else None)
      (find-append (is_again every b) older before ∙ ap (λ o. option_or o (find (is_again every b) before)) (none older old)) where
        none : (cs : List Checkpoint) → ((a : Checkpoint) → In a cs → is_again every b a ≡ false) → find (is_again every b) cs ≡ None
        none [] h = refl
        none (c ∷ cs) h = rw (h c (inl refl)) (none cs (λ a k. h a (inr k)))

  first_drop : (older before cs : List Checkpoint) → ((b : Checkpoint) → In b cs → (a : Checkpoint) → In a older → is_again every b a ≡ false)
      → first_found every (older ++ before) cs ≡ first_found every before cs
  first_drop older before [] old = refl
  first_drop older before (b ∷ cs) old =
      let one = found_drop older before b (old b (inl refl)) in
      let others = ap (λ l. first_found every l cs) (append_assoc older before (b ∷ [])) ∙ first_drop older (before ++ b ∷ []) cs (λ x k. old x (inr k)) in
      λ i. option_or (one i) (others i)

-- ---- the windows

module _ (case : Case) (is : IsCase case) (every : ℕ) (some : 0 < every) where
  abbrev nth : ℕ → Checkpoint
  nth k = checkpoint case every k

  -- the checkpoints of a gap are those of the case
  gap_range : (n count : ℕ) → IsGap every (case_gap case every n count) → gap_checkpoints every (case_gap case every n count) ≡ map nth (range_with_len n count)
  gap_range n count a =
      map_range (λ k. after_first (case_gap case every n count) (k * every)) nth 0 n count (λ k l.
      let time : n * every + (0 + k) * every ≡ (n + k) * every = (let e = add-mul n k every in let z : 0 + k ≡ k = omega arith in let zz = ap (λ x. x * every) z in omega arith) in
      let less : k ≤ count - 1 = omega arith in
      let le = mul-le-mul_right every less in
      let still : IsStill ((0 + k) * every) (shape case (n * every)) = λ i d m. (let e = a.still i d m in let z : 0 + k ≡ k = omega arith in let zz = ap (λ x. x * every) z in omega arith) in
      let same = sym (still_shape case is (n * every) ((0 + k) * every) still) in
      λ i. record { time = time i; shape = (same ∙ ap (shape case) time) i })

  -- a watch that keeps the last checkpoints of n, 64 at least or all
  record Keeps (n : ℕ) (w : Watch) : Type 0 where
    every_is : w.every ≡ every
    found : w.found ≡ finding case every n
    first : ℕ
    count : ℕ
    range : flat_map (gap_checkpoints every) w.window ≡ map nth (range_with_len first count)
    ends : first + count ≡ n + 1
    start : 1 ≤ first
    enough : (first ≡ 1) ⊎ (64 ≤ count)
    filled : All (λ g. 0 < g.count) w.window

  keeps_nothing : Keeps 0 (fresh every)
  keeps_nothing = record {
    every_is = refl;
    found = refl;
    first = 1;
    count = 0;
    range = refl;
    ends = refl;
    start = omega arith;
    enough = inl refl;
    filled = λ k d l. absurd (omega arith);
  }

  longer : (gs : List Gap) → All (λ g. 0 < g.count) gs → length gs ≤ length (flat_map (gap_checkpoints every) gs)
  longer [] h = omega arith
  longer (g ∷ gs) h =
      let here : 0 < g.count = in_from_all (λ x. 0 < x.count) (g ∷ gs) h g (inl refl) in
      let more = longer gs (all_from_in (λ x. 0 < x.count) gs (λ x k. in_from_all (λ y. 0 < y.count) (g ∷ gs) h x (inr k))) in
      let parts = length-append (gap_checkpoints every g) (flat_map (gap_checkpoints every) gs) in
      let own = length-map (range_with_len 0 g.count) (λ k. after_first g (k * every)) in
      let range = range-length 0 g.count in
      omega arith

  dropped : (d : ℕ) (gs : List Gap) (a n : ℕ) → flat_map (gap_checkpoints every) gs ≡ map nth (range_with_len a n)
      → (k : ℕ) × (k ≤ n) × (flat_map (gap_checkpoints every) (drop d gs) ≡ map nth (range_with_len (a + k) (n - k)))
  dropped zero gs a n h =
      let e : a ≡ a + 0 = omega arith in
      let z : n ≡ n - 0 = omega arith in
      (0, omega arith, h ∙ (λ i. map nth (range_with_len (e i) (z i))))
  dropped (suc d) [] a n h =
      let e : a ≡ a + 0 = omega arith in
      let z : n ≡ n - 0 = omega arith in
      (0, omega arith, h ∙ (λ i. map nth (range_with_len (e i) (z i))))
  dropped (suc d) (g ∷ gs) a n h =
      let r = rest_range nth (gap_checkpoints every g) (flat_map (gap_checkpoints every) gs) a n h in
      let x = length (gap_checkpoints every g) in
      let more = dropped d gs (a + x) (n - x) r.1 in
      let one = r.0 in
      let two = more.1 in
      let e : a + x + more.0 ≡ a + (x + more.0) = omega arith in
      let z : n - x - more.0 ≡ n - (x + more.0) = omega arith in
      (x + more.0, omega arith, more.2 ∙ (λ i. map nth (range_with_len (e i) (z i))))

  all_drop : (d : ℕ) (gs : List Gap) → All (λ g. 0 < g.count) gs → All (λ g. 0 < g.count) (drop d gs)
  all_drop d gs h = all_from_in (λ g. 0 < g.count) (drop d gs) (λ g k. in_from_all (λ x. 0 < x.count) gs h g (in_drop g d gs k))

  -- the last gaps of more than a window hold a window of checkpoints
  record KeepsLast (a n : ℕ) (gs : List Gap) : Type 0 where
    skipped : ℕ
    within : skipped ≤ n
    range : flat_map (gap_checkpoints every) (keep_last 64 gs) ≡ map nth (range_with_len (a + skipped) (n - skipped))
    enough : (skipped ≡ 0) ⊎ (64 ≤ n - skipped)

  keeps_last : (a n : ℕ) (gs : List Gap) → All (λ g. 0 < g.count) gs → flat_map (gap_checkpoints every) gs ≡ map nth (range_with_len a n) → KeepsLast a n gs
  keeps_last a n gs filled h =
      elim (cases_lt 64 (length gs)) [
        | inl l ↦
            let d = length gs - 64 in
            let r = dropped d gs a n h in
            let kept = drop_to d gs (omega arith) in
            let long = longer (drop d gs) (all_drop d gs filled) in
            let same : length (flat_map (gap_checkpoints every) (drop d gs)) ≡ n - r.0
            = ap (λ (l : List Checkpoint). length l) r.2 ∙ length-map (range_with_len (a + r.0) (n - r.0)) nth ∙ range-length (a + r.0) (n - r.0) in
            record { skipped = r.0; within = r.1; range = r.2; enough = inr (omega arith) }
        | inr l ↦
            let none : length gs - 64 ≡ 0 = omega arith in
            let e : a ≡ a + 0 = omega arith in
            let z : n ≡ n - 0 = omega arith in
            record {
              skipped = 0;
              within = omega arith;
              range = ap (λ d. flat_map (gap_checkpoints every) (drop d gs)) none ∙ h ∙ (λ i. map nth (range_with_len (e i) (z i)));
              enough = inl refl;
            }
      ]

  module _ (n count : ℕ) (w : Watch) (k : Keeps n w) (a : IsGap every (case_gap case every (n + 1) count)) where
    abbrev new : Gap
    new = case_gap case every (n + 1) count

    abbrev recent : List Checkpoint
    recent = map nth (range_with_len k.first k.count)

    abbrev added : List Checkpoint
    added = map nth (range_with_len (n + 1) count)

    old_apart : (b : Checkpoint) → In b added → (c : Checkpoint) → In c (map nth (range_with_len 1 (k.first - 1))) → is_again every b c ≡ false
    old_apart b in_new c in_old =
        let j = in_map nth b (range_with_len (n + 1) count) in_new in
        let i = in_map nth c (range_with_len 1 (k.first - 1)) in_old in
        let j_is = in_range j.0 (n + 1) count j.2 in
        let i_is = in_range i.0 1 (k.first - 1) i.2 in
        let start = k.start in
        let ends = k.ends in
        elim k.enough [
          | inl one ↦ absurd (omega arith)
          | inr many ↦
              let far : i.0 + 64 + 1 ≤ j.0 = omega arith in
              let times = mul-le-mul_right every far in
              let apart : is_again every (nth j.0) (nth i.0) ≡ false = false_from_ne_true (is_again every (nth j.0) (nth i.0)) (λ t.
              let near = leb-true (j.0 * every) (i.0 * every + 64 * every) (and_parts (nat_le (j.0 * every) (i.0 * every + 64 * every)) _ t).0 in
              absurd (omega arith)) in
              (λ z. is_again every (j.1 z) (i.1 z)) ∙ apart
        ]

    found_more : (with_gap w new).found ≡ finding case every (n + count)
    found_more =
        let start = k.start in
        let ends = k.ends in
        let whole : map nth (range_with_len 1 (k.first - 1)) ++ recent ≡ map nth (range_with_len 1 n)
        = range_append nth 1 (k.first - 1) k.count k.first (omega arith) ∙ ap (λ x. map nth (range_with_len 1 x)) (let e : k.first - 1 + k.count ≡ n = omega arith in e) in
        let all : first_found every recent added ≡ first_found every (map nth (range_with_len 1 n)) added
        = sym (first_drop every (map nth (range_with_len 1 (k.first - 1))) recent added old_apart) ∙ ap (λ l. first_found every l added) whole in
        let joined = first_found-append every [] (map nth (range_with_len 1 n)) added in
        let range = range_append nth 1 n count (n + 1) (omega arith) in
        (λ i. option_or w.found (first_found (k.every_is i) (flat_map (gap_checkpoints (k.every_is i)) w.window) (gap_checkpoints (k.every_is i) new)))
        ∙ (λ i. option_or (k.found i) (first_found every (k.range i) (gap_range (n + 1) count a i)))
        ∙ ap (option_or (finding case every n)) all ∙ sym joined ∙ ap (first_found every []) range

    keeps_gap : Keeps (n + count) (with_gap w new)
    keeps_gap =
        let ends = k.ends in
        let all : flat_map (gap_checkpoints every) (w.window ++ new ∷ []) ≡ map nth (range_with_len k.first (k.count + count))
        = flat_append (gap_checkpoints every) w.window (new ∷ [])
        ∙ (λ i. k.range i ++ append-nil (gap_checkpoints every new) i) ∙ ap (λ l. recent ++ l) (gap_range (n + 1) count a)
        ∙ range_append nth k.first k.count count (n + 1) (omega arith) in
        let filled : All (λ g. 0 < g.count) (w.window ++ new ∷ []) = all_from_in (λ g. 0 < g.count) (w.window ++ new ∷ []) (λ g h. elim (in_append g w.window (new ∷ []) h) [
          | inl old ↦ in_from_all (λ x. 0 < x.count) w.window k.filled g old
          | inr it ↦ elim it [ inl e ↦ subst (λ x. 0 < x.count) (sym e) a.some | inr z ↦ absurd z ]
        ]) in
        let last = keeps_last k.first (k.count + count) (w.window ++ new ∷ []) filled all in
        let within = last.within in
        let start = k.start in
        record {
          every_is = k.every_is;
          found = found_more;
          first = k.first + last.skipped;
          count = k.count + count - last.skipped;
          range = last.range;
          ends = omega arith;
          start = omega arith;
          enough = elim last.enough [
            | inr many ↦ inr many
            | inl none ↦ elim k.enough [
              | inl one ↦ inl (omega arith)
              | inr many ↦ inr (omega arith)
            ]
          ];
          filled = all_drop (length (w.window ++ new ∷ []) - 64) (w.window ++ new ∷ []) filled;
        }

  keeps : {n : ℕ} {w : Watch} → HasSeen case every n w → Keeps n w
  keeps nothing = keeps_nothing
  keeps (gap {n} {count} {w} seen a) = keeps_gap n count w (keeps seen) a

  -- a watch has found what is found first
  pub seen_found : (n : ℕ) (w : Watch) → HasSeen case every n w → w.found ≡ finding case every n
  seen_found n w seen = (keeps seen).found

  -- and what it keeps is before the next checkpoint
  pub seen_early : (n : ℕ) (w : Watch) → HasSeen case every n w → All (λ c. c.time < (n + 1) * every) (checkpoints_in w)
  seen_early n w seen =
      let k = keeps seen in
      let range : checkpoints_in w ≡ map nth (range_with_len k.first k.count) = (λ i. flat_map (gap_checkpoints (k.every_is i)) w.window) ∙ k.range in
      subst (λ (l : List Checkpoint). All (λ c. c.time < (n + 1) * every) l) (sym range) (all_from_in (λ c. c.time < (n + 1) * every) (map nth (range_with_len k.first k.count)) (λ c h.
      let i = in_map nth c (range_with_len k.first k.count) h in
      let number = in_range i.0 k.first k.count i.2 in
      let ends = k.ends in
      let next : i.0 + 1 ≤ n + 1 = omega arith in
      let times = mul-le-mul_right every next in
      let time : c.time ≡ i.0 * every = ap (λ x. x.time) i.1 in
      omega arith))
