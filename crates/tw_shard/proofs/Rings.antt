-- The events that a router can undo, in the two parts of a ring.
use Rattle.std.proofs.Common.{◌≡◌, ℕ, zero, suc, ◌==◌, ◌+◌, ◌-◌, ◌<◌, ◌≤◌, Bool, cond, List, [], ◌∷◌, ◌++◌, refl, ap, sym, ◌∙◌, arith, if◌then◌else◌}
use Rattle.std.proofs.Common.{append-nil, append_assoc, count_by, false, length, not, reverse, slice_get, take, true, None, Some}
use Rattle.std.proofs.lemmas.Bool.{eq-eqb, false_from_ne_true, ne_eqb}
use Rattle.std.proofs.lemmas.List.{map-append, reverse-append, take-append-le}
use Rattle.std.proofs.lemmas.List.Folds.{prefix_len-append}
use Rattle.std.proofs.lemmas.List.Sums.{prefix_len-le-length, sum_by-append}
use Rattle.std.specs.List.{prefix_len}
use Rattle.tw_event.specs.declared.event.Event.{Event}
use Rattle.tw_event.specs.Order.{event_same}
use Rattle.tw_event.proofs.Order.{same_is}
use Rattle.tw_core.specs.Steps.{is_newest}
use Rattle.tw_model.specs.Case.{Case, simulation}
use Rattle.tw_shard.proofs.Histories.{newest_first}
use Rattle.tw_shard.proofs.Queues.{newest_same}
use Rattle.tw_shard.specs.Ahead.{EndsOtherwise}
use Rattle.tw_shard.specs.declared.timeline.HandledEvent.{HandledEvent}
use Rattle.tw_shard.specs.Timeline.{events_of, noted_change}

-- the events of two parts, the newest first
pub events_both : (steps newer : List HandledEvent) → events_of (reverse (steps ++ newer)) ≡ events_of (reverse newer) ++ events_of (reverse steps)
events_both steps newer = ap events_of (reverse-append steps newer) ∙ map-append (λ (d : HandledEvent). d.event) (reverse newer) (reverse steps)

-- and with older ones behind them
pub events_behind : (steps newer : List HandledEvent) (older : List Event)
    → events_of (reverse newer) ++ (events_of (reverse steps) ++ older) ≡ events_of (reverse (steps ++ newer)) ++ older
events_behind steps newer older =
    sym (append_assoc (events_of (reverse newer)) (events_of (reverse steps)) older) ∙ ap (λ l. l ++ older) (sym (events_both steps newer))

-- what the records of two parts say of the last change
pub noted_both : (time : ℕ) (steps newer : List HandledEvent) → noted_change (noted_change time steps) newer ≡ noted_change time (steps ++ newer)
noted_both time [] newer = refl
noted_both time (d ∷ steps) newer = noted_both (if d.note.changed then d.event.time else time) steps newer

module _ {X : Type 0} where
  -- the first elements, where they go beyond the first part
  pub take_beyond : (count : ℕ) (xs ys : List X) → length xs ≤ count → xs ++ take (count - length xs) ys ≡ take count (xs ++ ys)
  take_beyond count [] ys le = ap (λ n. take n ys) (omega arith)
  take_beyond zero (x ∷ xs) ys le = absurd (omega arith)
  take_beyond (suc count) (x ∷ xs) ys le =
      let left : suc count - length (x ∷ xs) ≡ count - length xs = omega arith in
      ap (λ n. x ∷ (xs ++ take n ys)) left ∙ ap (λ l. x ∷ l) (take_beyond count xs ys (omega arith))

  -- and where they don't
  pub take_within : (count : ℕ) (xs ys : List X) → count ≤ length xs → take count xs ++ [] ≡ take count (xs ++ ys)
  take_within count xs ys le = append-nil (take count xs) ∙ sym (take-append-le count xs ys le)

  -- where not all of the first part pass, the second does not count
  pub prefix_front : (p : X → Bool) (xs ys : List X) (n : ℕ) → n ≡ prefix_len p xs → n < length xs → n ≡ prefix_len p (xs ++ ys)
  prefix_front p xs ys n is lt =
      let whole = rw (ne_eqb (prefix_len p xs) (length xs) (λ all. absurd (omega arith))) at (prefix_len-append p xs ys) in
      omega arith

  -- and where all do, it goes on there
  pub prefix_both : (p : X → Bool) (xs ys : List X) (n k : ℕ) → n ≡ prefix_len p xs → length xs ≤ n → k ≡ prefix_len p ys → n + k ≡ prefix_len p (xs ++ ys)
  prefix_both p xs ys n k is le more =
      let most = prefix_len-le-length p xs in
      let all : prefix_len p xs ≡ length xs = omega arith in
      let whole = rw (eq-eqb (prefix_len p xs) (length xs) all) at (prefix_len-append p xs ys) in
      omega arith

  -- a list without its last element, which is d
  split_at : (n : ℕ) (xs : List X) (d : X) → n + 1 ≡ length xs → slice_get xs n ≡ Some d → xs ≡ take n xs ++ d ∷ []
  split_at n [] d long h = cc
  split_at zero (x ∷ []) d long h = (let same : x ≡ d = cc h in ap (λ y. y ∷ []) same)
  split_at zero (x ∷ y ∷ ys) d long h = absurd (omega arith)
  split_at (suc n) (x ∷ xs) d long h = ap (λ l. x ∷ l) (split_at n xs d (omega arith) h)

  pub last_is : (xs : List X) (d : X) → slice_get xs (length xs - 1) ≡ Some d → xs ≡ take (length xs - 1) xs ++ d ∷ []
  last_is [] d h = cc
  last_is (x ∷ xs) d h = split_at (length (x ∷ xs) - 1) (x ∷ xs) d (omega arith) h

  pub some_at : (xs : List X) (n : ℕ) → n < length xs → (d : X) × (slice_get xs n ≡ Some d)
  some_at [] n lt = absurd (omega arith)
  some_at (x ∷ xs) zero lt = (x, refl)
  some_at (x ∷ xs) (suc n) lt = some_at xs n (omega arith)

  -- a list that has no last element has none
  pub none_last : (xs : List X) → slice_get xs (length xs - 1) ≡ None → xs ≡ []
  none_last [] h = refl
  none_last (x ∷ xs) h = (let there = some_at (x ∷ xs) (length (x ∷ xs) - 1) (omega arith) in absurd (cc (there.1, h)))

  -- how many pass in two parts
  pub count_both : (p : X → Bool) (xs ys : List X) → count_by p xs + count_by p ys ≡ count_by p (xs ++ ys)
  count_both p xs ys = sym (sum_by-append (λ x. cond (p x) 1 0) xs ys)

-- the newest event is that of the last step
pub newest_is : (steps : List HandledEvent) (d : HandledEvent) (past : List Event) → slice_get steps (length steps - 1) ≡ Some d
    → Some d.event ≡ slice_get (events_of (reverse steps) ++ past) 0
newest_is steps d past h =
    ap (λ l. slice_get (events_of l ++ past) 0) (sym (newest_first steps (take (length steps - 1) steps) d (last_is steps d h)))

pub newest_ahead_is : (steps : List HandledEvent) (d : HandledEvent) → slice_get steps (length steps - 1) ≡ Some d → Some d.event ≡ slice_get (events_of (reverse steps)) 0
newest_ahead_is steps d h = ap (λ l. slice_get (events_of l) 0) (sym (newest_first steps (take (length steps - 1) steps) d (last_is steps d h)))

-- where the newest event is another one, so is the newest of the history
pub newest_otherwise : (case : Case) (e : Event) (steps : List HandledEvent) (past : List Event) → EndsOtherwise e steps
    → false ≡ is_newest (simulation case) e (events_of (reverse steps) ++ past)
newest_otherwise case e steps past h =
    sym h.2 ∙ newest_same case e h.0.event (events_of (reverse steps) ++ past) (newest_is steps h.0 past h.1)

-- events that are not equal are told apart
pub other_event : (e d : Event) → (e ≡ d → ⊥) → event_same e d ≡ false
other_event e d other = false_from_ne_true (event_same e d) (λ same. other (same_is e d same))

-- there is something where it is not told that there is nothing
pub some_there : (n : ℕ) → not (n == 0) ≡ true → 0 < n
some_there zero h = cc h
some_there (suc n) h = omega arith

-- two numbers that are told apart differ
pub other_number : (m n : ℕ) → not (m == n) ≡ true → m ≡ n → ⊥
other_number m n told same = cc (rw (eq-eqb m n same) at told)
