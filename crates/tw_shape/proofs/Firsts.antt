-- What is found first at the checkpoints of a gap: none of them shows the shape of another, so those before the gap decide, and
-- past the window's length none is near.
use Rattle.std.proofs.Common.{◌≡◌, ℕ, suc, zero, ◌+◌, ◌-◌, ◌*◌, ◌<◌, ◌≤◌, Bool, true, false, ◌&&◌, List, [], ◌∷◌, ◌++◌, map, Option, Some, None, refl, ap, sym, ◌∙◌, subst, inl, inr, arith, nat_le, append_assoc, append-nil, min}
use Rattle.std.specs.List.{All, find, range_with_len}
use Rattle.std.specs.Option.{option_map, option_or}
use Rattle.std.proofs.Math.Nat.{mul-le-mul_right}
use Rattle.std.proofs.lemmas.Bool.{and_parts, both_ways, cases_eq, cases_lt, false_from_ne_true, leb-true}
use Rattle.std.proofs.lemmas.List.Folds.{find-append}
use Rattle.tw_event.specs.declared.event.Event.{Event}
use Rattle.tw_sim.proofs.Members.{In, in_find, in_flat_map, in_from_all, in_map, in_range}
use Rattle.tw_shape.specs.declared.verdict.Finding.{Finding}
use Rattle.tw_shape.specs.declared.watch.Gap.{Gap}
use Rattle.tw_shape.specs.Shape.{IsStill, Shape, can_repeat, later, sooner}
use Rattle.tw_shape.specs.Verdict.{Checkpoint, first_found, found_at, is_again, since}
use Rattle.tw_shape.specs.Watch.{IsGap, Watch, after_first, gap_checkpoints, checkpoints_in}
use Rattle.tw_shape.specs.Same.{NeverMeet}
use Rattle.tw_shape.specs.Windows.{IsTimely}
use Rattle.tw_shape.proofs.Looking.{can_repeat-later, find_none, no_repeat}
use Rattle.tw_shape.proofs.Sameness.{shape_decides}
use Rattle.tw_shape.proofs.Searching.{time_first}

-- while something is pending and nothing is handled, shapes differ: their least times do
pub never_same : (s : Shape) (a b : ℕ) → a < b → IsStill b s → (s.pending ≡ [] → ⊥) → later a s ≡ later b s → ⊥
never_same s a b less still some same = go s.pending some still (ap (λ w. w.pending) same) where
  go : (xs : List Event) → (xs ≡ [] → ⊥) → All (λ e. b ≤ e.time) xs → map (sooner a) xs ≡ map (sooner b) xs → ⊥
  go [] f all h = f refl
  go (x ∷ xs) f all h =
      let far : b ≤ x.time = in_from_all (λ e. b ≤ e.time) (x ∷ xs) all x (inl refl) in
      let head : sooner a x ≡ sooner b x = cc in
      let times : x.time - a ≡ x.time - b = ap (λ e. e.time) head in
      absurd (omega arith)

pub some_pending : (s : Shape) → can_repeat s ≡ true → s.pending ≡ [] → ⊥
some_pending s can none = both_ways (can_repeat s) (no_repeat s none) can

pub range_push : {X : Type 0} (f : ℕ → X) (a n k : ℕ) → k ≡ a + n → map f (range_with_len a n) ++ f k ∷ [] ≡ map f (range_with_len a (suc n))
range_push f a zero k is = ap (λ m. f m ∷ []) (let e : k ≡ a = omega arith in e)
range_push f a (suc n) k is = ap (λ l. f a ∷ l) (range_push f (a + 1) n k (omega arith))

option_or-none : {X : Type 0} (o : Option X) → option_or o None ≡ o
option_or-none None = refl
option_or-none (Some x) = refl

-- the finding at a checkpoint whose shape was seen at this time
abbrev pub finding_from : Checkpoint → ℕ → Finding
finding_from b t = record { from = t; period = b.time - t }

found_by_time : (every : ℕ) (before : List Checkpoint) (b : Checkpoint) → can_repeat b.shape ≡ true
    → found_at every before b ≡ option_map (finding_from b) (time_first (is_again every b) before)
found_by_time every before b can = rw can (two (find (is_again every b) before)) where
  two : (o : Option Checkpoint) → option_map (since b) o ≡ option_map (finding_from b) (option_map (λ c. c.time) o)
  two None = refl
  two (Some a) = refl

-- where the gap's shape can't repeat, nothing is found
pub cannot_find : (every : ℕ) (w : List Checkpoint) (gap : Gap) → can_repeat gap.shape ≡ false → first_found every w (gap_checkpoints every gap) ≡ None
cannot_find every w gap never = go 0 gap.count w where
  go : (k n : ℕ) (before : List Checkpoint) → first_found every before (map (λ i. after_first gap (i * every)) (range_with_len k n)) ≡ None
  go k zero before = refl
  go k (suc n) before =
      let none : can_repeat (later (k * every) gap.shape) ≡ false = can_repeat-later (k * every) gap.shape ∙ never in
      rw none (go (k + 1) n (before ++ after_first gap (k * every) ∷ []))

module _ (every : ℕ) (some : 0 < every) (w : List Checkpoint) (gap : Gap) (is : IsGap every gap) where
  -- checkpoint k of the gap, from 0
  abbrev pub nth : ℕ → Checkpoint
  nth k = after_first gap (k * every)

  abbrev own : ℕ → List Checkpoint
  own k = map nth (range_with_len 0 k)

  module _ (can : can_repeat gap.shape ≡ true) where
    own_apart : (k : ℕ) → k < gap.count → (i : ℕ) → i < k → is_again every (nth k) (nth i) ≡ false
    own_apart k l i less =
        false_from_ne_true (is_again every (nth k) (nth i)) (λ h.
        let same = (shape_decides (later (i * every) gap.shape) (later (k * every) gap.shape)).0 (and_parts (nat_le (gap.time + k * every) (gap.time + i * every + 64 * every)) _ h).1 in
        let le : k ≤ gap.count - 1 = omega arith in
        let far = mul-le-mul_right every le in
        let next : i + 1 ≤ k = omega arith in
        let step = mul-le-mul_right every next in
        let still : IsStill (k * every) gap.shape = λ n d m. (let e = is.still n d m in omega arith) in
        never_same gap.shape (i * every) (k * every) (omega arith) still (some_pending gap.shape can) same)

    can_nth : (k : ℕ) → can_repeat (nth k).shape ≡ true
    can_nth k = can_repeat-later (k * every) gap.shape ∙ can

    -- those of the gap before it change nothing
    found_nth : (k : ℕ) → k < gap.count → found_at every (w ++ own k) (nth k) ≡ option_map (finding_from (nth k)) (time_first (is_again every (nth k)) w)
    found_nth k l =
        let none = find_none (is_again every (nth k)) nth 0 k (λ i low up. own_apart k l i (omega arith)) in
        let both = find-append (is_again every (nth k)) w (own k) in
        found_by_time every (w ++ own k) (nth k) (can_nth k)
        ∙ ap (λ o. option_map (finding_from (nth k)) (option_map (λ c. c.time) o)) (both ∙ ap (option_or (find (is_again every (nth k)) w)) none ∙ option_or-none _)

    abbrev has_none : ℕ → Type 0
    has_none k = time_first (is_again every (nth k)) w ≡ None

    first_step : (k n : ℕ) → first_found every (w ++ own k) (map nth (range_with_len k (suc n)))
        ≡ option_or (found_at every (w ++ own k) (nth k)) (first_found every (w ++ own (k + 1)) (map nth (range_with_len (k + 1) n)))
    first_step k n =
        ap (λ l. option_or (found_at every (w ++ own k) (nth k)) (first_found every l (map nth (range_with_len (k + 1) n))))
        (append_assoc w (own k) (nth k ∷ []) ∙ ap (λ l. w ++ l) (range_push nth 0 k k (omega arith)) ∙ ap (λ n. w ++ own n) (let e : suc k ≡ k + 1 = omega arith in e))

    -- nothing is found where none of its checkpoints shows a shape from before
    find_nothing : (k n : ℕ) → k + n ≤ gap.count → ((i : ℕ) → k ≤ i → i < k + n → has_none i) → first_found every (w ++ own k) (map nth (range_with_len k n)) ≡ None
    find_nothing k zero le none = refl
    find_nothing k (suc n) le none =
        first_step k n ∙ ap (λ o. option_or o (first_found every (w ++ own (k + 1)) (map nth (range_with_len (k + 1) n))))
        (found_nth k (omega arith) ∙ ap (option_map (finding_from (nth k))) (none k (omega arith) (omega arith)))
        ∙ find_nothing (k + 1) n (omega arith) (λ i low up. none i (omega arith) (omega arith))

    -- else it is what is found at the first that does
    find_at : (k n j t : ℕ) → k + n ≤ gap.count → k ≤ j → j < k + n → ((i : ℕ) → k ≤ i → i < j → has_none i) → time_first (is_again every (nth j)) w ≡ Some t
        → first_found every (w ++ own k) (map nth (range_with_len k n)) ≡ Some (finding_from (nth j) t)
    find_at k zero j t le low up none some = absurd (omega arith)
    find_at k (suc n) j t le low up none found =
        elim (cases_eq k j) [
          | inl is_k ↦ first_step k n ∙ ap (λ o. option_or o (first_found every (w ++ own (k + 1)) (map nth (range_with_len (k + 1) n))))
              (found_nth k (omega arith) ∙ subst (λ z. option_map (finding_from (nth k)) (time_first (is_again every (nth k)) w) ≡ Some (finding_from (nth z) t)) is_k
              (ap (option_map (finding_from (nth k))) (subst (λ z. time_first (is_again every (nth z)) w ≡ Some t) (sym is_k) found)))
          | inr not_k ↦ first_step k n
              ∙ ap (λ o. option_or o (first_found every (w ++ own (k + 1)) (map nth (range_with_len (k + 1) n))))
              (found_nth k (omega arith) ∙ ap (option_map (finding_from (nth k))) (none k (omega arith) (omega arith)))
              ∙ find_at (k + 1) n j t (omega arith) (omega arith) (omega arith) (λ i a b. none i (omega arith) (omega arith)) found
        ]

    module _ (before : All (λ c. c.time < gap.time) w) where
      far_none : (k : ℕ) → 64 ≤ k → has_none k
      far_none k far = ap (option_map (λ c. c.time)) (none w (λ c h. in_from_all (λ x. x.time < gap.time) w before c h)) where
        none : (cs : List Checkpoint) → ((c : Checkpoint) → In c cs → c.time < gap.time) → find (is_again every (nth k)) cs ≡ None
        none [] h = refl
        none (c ∷ cs) h =
            let early = h c (inl refl) in
            let times = mul-le-mul_right every far in
            let fails : is_again every (nth k) c ≡ false = false_from_ne_true (is_again every (nth k) c) (λ t.
            let near = leb-true (gap.time + k * every) (c.time + 64 * every) (and_parts (nat_le (gap.time + k * every) (c.time + 64 * every)) _ t).0 in
            absurd (omega arith)) in
            rw fails (none cs (λ d m. h d (inr m)))

      -- what was looked at is enough
      pub found_nothing : (n : ℕ) → n ≡ min gap.count 64 → ((i : ℕ) → i < n → has_none i) → first_found every w (gap_checkpoints every gap) ≡ None
      found_nothing n is_n none =
          ap (λ l. first_found every l (gap_checkpoints every gap)) (sym (append-nil w))
          ∙ find_nothing 0 gap.count (omega arith) (λ i low up. elim (cases_lt i 64) [
            | inl l ↦ none i (omega arith)
            | inr l ↦ far_none i l
          ])

      pub found_first : (k t : ℕ) → k < gap.count → ((i : ℕ) → i < k → has_none i) → time_first (is_again every (nth k)) w ≡ Some t
          → first_found every w (gap_checkpoints every gap) ≡ Some (finding_from (nth k) t)
      found_first k t l none found =
          ap (λ l. first_found every l (gap_checkpoints every gap)) (sym (append-nil w)) ∙ find_at 0 gap.count k t (omega arith) (omega arith) (omega arith) (λ i a b. none i b) found

      -- and its time is before the gap
      pub found_early : (k t : ℕ) → time_first (is_again every (nth k)) w ≡ Some t → t < gap.time
      found_early k t found = go (find (is_again every (nth k)) w) refl found where
        go : (o : Option Checkpoint) → find (is_again every (nth k)) w ≡ o → option_map (λ c. c.time) o ≡ Some t → t < gap.time
        go None e h = cc
        go (Some c) e h =
            let there = in_find (is_again every (nth k)) c w e in
            let early = in_from_all (λ x. x.time < gap.time) w before c there.1 in
            let same : c.time ≡ t = cc in
            omega arith

-- where no gap from before has a shape that this one shows later, nothing is found
pub found_unlike : (w : Watch) (gap : Gap) → 0 < w.every → IsTimely w.every gap → All (IsTimely w.every) w.window → All (λ old. NeverMeet old.shape gap.shape) w.window
    → All (λ c. c.time < gap.time) (checkpoints_in w) → can_repeat gap.shape ≡ true → first_found w.every (checkpoints_in w) (gap_checkpoints w.every gap) ≡ None
found_unlike w gap some is timely apart before can =
    found_nothing w.every some (checkpoints_in w) gap is.is can before (min gap.count 64) refl (λ i l. ap (option_map (λ c. c.time)) (none i (omega arith) (checkpoints_in w) (λ c h. h))) where
      differs : (i : ℕ) → i < gap.count → (c : Checkpoint) → In c (checkpoints_in w) → is_again w.every (after_first gap (i * w.every)) c ≡ false
      differs i l c h =
          let old = in_flat_map (gap_checkpoints w.every) c w.window h in
          let place = in_map (λ k. after_first old.0 (k * w.every)) c (range_with_len 0 old.0.count) old.1 in
          let within = in_range place.0 0 old.0.count place.2 in
          let a = in_from_all (IsTimely w.every) w.window timely old.0 old.2 in
          let never = in_from_all (λ g. NeverMeet g.shape gap.shape) w.window apart old.0 old.2 in
          let still_old = sooner_still old.0 a place.0 (omega arith) in
          let still_new = sooner_still gap is i l in
          let no = never (place.0 * w.every) (i * w.every) still_old still_new in
          let near = nat_le (gap.time + i * w.every) (old.0.time + place.0 * w.every + 64 * w.every) in
          ap (is_again w.every (after_first gap (i * w.every))) place.1 ∙ ap (λ b. near && b) no ∙ never_both near where
            never_both : (b : Bool) → (b && false) ≡ false
            never_both true = refl
            never_both false = refl

            sooner_still : (g : Gap) → IsTimely w.every g → (k : ℕ) → k < g.count → IsStill (k * w.every) g.shape
            sooner_still g t k less = λ n d m. (let le : k ≤ g.count - 1 = omega arith in let far = mul-le-mul_right w.every le in let e = t.is.still n d m in omega arith)

      none : (i : ℕ) → i < gap.count → (cs : List Checkpoint) → ((c : Checkpoint) → In c cs → In c (checkpoints_in w)) → find (is_again w.every (after_first gap (i * w.every))) cs ≡ None
      none i l [] h = refl
      none i l (c ∷ cs) h = rw (differs i l c (h c (inl refl))) (none i l cs (λ d k. h d (inr k)))
