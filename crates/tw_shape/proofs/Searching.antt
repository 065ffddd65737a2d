-- A search through the gaps of a watch, the oldest first.
use Rattle.std.proofs.Common.{◌≡◌, ℕ, suc, zero, ◌-◌, Bool, false, true, List, [], ◌∷◌, ◌++◌, drop, get_or, length, set, Option, Some, None, refl, ap, sym, ◌∙◌, subst, inl, inr, ◌<◌, arith}
use Rattle.std.specs.List.{All, find, flat_map}
use Rattle.std.specs.Option.{is_some, option_map, option_or}
use Rattle.std.proofs.lemmas.List.Folds.{find-append}
use Rattle.tw_sim.proofs.Members.{In, all_from_in, in_append, in_from_all}
use Rattle.circular_buffer.specs.Buffer.{keep_last}
use Rattle.tw_shape.specs.declared.watch.Gap.{Gap}
use Rattle.tw_shape.specs.Shape.{Shape}
use Rattle.tw_shape.specs.Same.{NeverMeet}
use Rattle.tw_shape.specs.Verdict.{Checkpoint, is_again}
use Rattle.tw_shape.specs.Watch.{Watch, after_first, gap_checkpoints, checkpoints_in}
use Rattle.tw_shape.specs.Windows.{IsTimely}

abbrev time_in : Option Checkpoint → Option ℕ
time_in o = option_map (λ c. c.time) o

-- the time of the first checkpoint that passes
abbrev pub time_first : (Checkpoint → Bool) → List Checkpoint → Option ℕ
time_first p cs = time_in (find p cs)

-- the gaps that are left decide, and are timely
pub record IsLeft (ticks : ℕ) (gap : Gap) (w : Watch) (left : List Gap) : Type 0 where
  pub same : time_first (is_again w.every (after_first gap ticks)) (flat_map (gap_checkpoints w.every) left) ≡ time_first (is_again w.every (after_first gap ticks)) (checkpoints_in w)
  pub timely : All (IsTimely w.every) left

time_or : (a b : Option Checkpoint) → time_in (option_or a b) ≡ option_or (time_in a) (time_in b)
time_or None b = refl
time_or (Some x) b = refl

-- one more gap, the next of those that are left
module _ (ticks : ℕ) (gap : Gap) (w : Watch) (x : Gap) (all left : List Gap) (step : all ≡ x ∷ left) (is : IsLeft ticks gap w all) (every : ℕ) (own : every ≡ w.every) where
  abbrev test : Checkpoint → Bool
  test = is_again w.every (after_first gap ticks)

  now : IsLeft ticks gap w (x ∷ left)
  now = subst (IsLeft ticks gap w) step is

  both : option_or (time_first test (gap_checkpoints w.every x)) (time_first test (flat_map (gap_checkpoints w.every) left)) ≡ time_first test (checkpoints_in w)
  both =
      sym (time_or (find test (gap_checkpoints w.every x)) (find test (flat_map (gap_checkpoints w.every) left)))
      ∙ ap time_in (sym (find-append test (gap_checkpoints w.every x) (flat_map (gap_checkpoints w.every) left))) ∙ now.same

  -- it is timely
  pub next_timely : IsTimely every x
  next_timely = subst (λ (k : ℕ). IsTimely k x) (sym own) (in_from_all (IsTimely w.every) (x ∷ left) now.timely x (inl refl))

  module _ (r : Option ℕ) (first : r ≡ time_first (is_again every (after_first gap ticks)) (gap_checkpoints every x)) where
    own_first : r ≡ time_first test (gap_checkpoints w.every x)
    own_first = subst (λ (k : ℕ). r ≡ time_first (is_again k (after_first gap ticks)) (gap_checkpoints k x)) own first

    -- it has none, and the others are left
    pub left_more : is_some r ≡ false → IsLeft ticks gap w left
    left_more none =
        record {
          same = ap (λ o. option_or o (time_first test (flat_map (gap_checkpoints w.every) left))) (sym (is_none r none) ∙ own_first) ∙ both;
          timely = all_from_in (IsTimely w.every) left (λ y k. in_from_all (IsTimely w.every) (x ∷ left) now.timely y (inr k));
        } where
          is_none : (o : Option ℕ) → is_some o ≡ false → o ≡ None
          is_none None h = refl
          is_none (Some t) h = cc

    -- it has one
    pub left_some : is_some r ≡ true → r ≡ time_first test (checkpoints_in w)
    left_some some = stays r some ∙ ap (λ o. option_or o (time_first test (flat_map (gap_checkpoints w.every) left))) own_first ∙ both where
      stays : (o : Option ℕ) → is_some o ≡ true → o ≡ option_or o (time_first test (flat_map (gap_checkpoints w.every) left))
      stays None h = cc
      stays (Some t) h = refl

pub left_all : (ticks : ℕ) (gap : Gap) (w : Watch) → IsLeft ticks gap w [] → None ≡ time_first (is_again w.every (after_first gap ticks)) (checkpoints_in w)
left_all ticks gap w is = is.same

pub in_drop : {X : Type 0} (x : X) (n : ℕ) (xs : List X) → In x (drop n xs) → In x xs
in_drop x zero xs h = h
in_drop x (suc n) [] h = absurd h
in_drop x (suc n) (y ∷ xs) h = inr (in_drop x n xs h)

-- the window stays timely with one gap more
pub timely_push : (every n : ℕ) (gaps : List Gap) (gap : Gap) → All (IsTimely every) gaps → IsTimely every gap → All (IsTimely every) (keep_last n (gaps ++ gap ∷ []))
timely_push every n gaps gap all is =
    all_from_in (IsTimely every) (keep_last n (gaps ++ gap ∷ [])) (λ g h.
    elim (in_append g gaps (gap ∷ []) (in_drop g (length (gaps ++ gap ∷ []) - n) (gaps ++ gap ∷ []) h)) [
      | inl k ↦ in_from_all (IsTimely every) gaps all g k
      | inr k ↦ elim k [ inl e ↦ subst (IsTimely every) (sym e) is | inr z ↦ absurd z ]
    ])

-- a gap of another shape, and then those that are left
pub apart_more : (s : Shape) (gaps all left : List Gap) (x : Gap) → all ≡ x ∷ left → NeverMeet x.shape s
    → (All (λ g. NeverMeet g.shape s) all → All (λ g. NeverMeet g.shape s) gaps) → All (λ g. NeverMeet g.shape s) left → All (λ g. NeverMeet g.shape s) gaps
apart_more s gaps all left x step first rest more =
    rest (subst (λ l. All (λ g. NeverMeet g.shape s) l) (sym step) (all_from_in (λ g. NeverMeet g.shape s) (x ∷ left) (λ g h.
    elim h [
      | inl is ↦ subst (λ z. NeverMeet z.shape s) (sym is) first
      | inr k ↦ in_from_all (λ z. NeverMeet z.shape s) left more g k
    ])))

-- an item, and then those that are left
pub drop_next : {X : Type 0} (xs : List X) (i : ℕ) (x : X) → i < length xs → x ≡ get_or xs i x → drop i xs ≡ x ∷ drop (suc i) xs
drop_next [] i x l h = absurd (omega arith)
drop_next (y ∷ ys) zero x l h = ap (λ z. z ∷ ys) (sym h)
drop_next (y ∷ ys) (suc i) x l h = drop_next ys i x (omega arith) h

-- an item that is written over itself
pub set_same : {X : Type 0} (xs : List X) (i : ℕ) (x : X) → i < length xs → x ≡ get_or xs i x → set xs i x ≡ xs
set_same [] i x l h = absurd (omega arith)
set_same (y ∷ ys) zero x l h = ap (λ z. z ∷ ys) h
set_same (y ∷ ys) (suc i) x l h = ap (λ zs. y ∷ zs) (set_same ys i x (omega arith) h)

-- those that are left of timely gaps
pub timely_left : (every i : ℕ) (gaps : List Gap) → All (IsTimely every) gaps → All (IsTimely every) (drop i gaps)
timely_left every i gaps all = all_from_in (IsTimely every) (drop i gaps) (λ g h. in_from_all (IsTimely every) gaps all g (in_drop g i gaps h))
