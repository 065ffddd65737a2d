-- Whether one of some events is for a router and before a limit.
use Rattle.std.proofs.Common.{◌≡◌, ◌≤◌, ◌<◌, ◌==◌, ◌&&◌, ◌||◌, ◌++◌, ℕ, ◌⊎◌, Bool, true, false, Some, None, List, [], ◌∷◌}
use Rattle.std.proofs.Common.{◌+◌, ◌*◌, suc, drop, take, length, get_or, filter, nat_lt, slice_get, refl, ap, sym, ◌∙◌, inl, inr, arith}
use Rattle.std.specs.List.{list_any}
use Rattle.std.proofs.lemmas.Bool.{cases_Bool, le-ltb, lt-ltb, ltb-false}
use Rattle.std.proofs.lemmas.List.{drop-drop, get_or-drop, get_or-take, length-take, take-append-drop}
use Rattle.std.proofs.lemmas.List.Folds.{list_any-append}
use Rattle.std.proofs.lemmas.Option.{none-some}
use Rattle.tw_event.specs.declared.event.Event.{Event}
use Rattle.tw_event.specs.Order.{event_before, event_same}
use Rattle.tw_sim.specs.Ordered.{insert, times}
use Rattle.tw_sim.specs.Rising.{IsRising}
use Rattle.tw_sim.proofs.Counts.{none}
use Rattle.tw_sim.proofs.Ordered.{one_self}
use Rattle.tw_ordered.specs.Buckets.{together}
use Rattle.tw_ordered.specs.InOrder.{in_order}
use Rattle.tw_ordered.specs.Queue.{is_before}
use Rattle.tw_calendar.specs.Turn.{mark_at}
use Rattle.tw_calendar.specs.Update.{event_at, events_at}
use Rattle.tw_calendar.specs.declared.update.Update.{Update}
use Rattle.tw_ordered.proofs.Released.{no_length}
use Rattle.tw_ordered.proofs.Events.{event_law, not_earlier, same_some}

-- the order of events does not count
either_first : (a b c : Bool) → (a || (b || c)) ≡ (b || (a || c))
either_first true true c = refl
either_first true false c = refl
either_first false true c = refl
either_first false false c = refl

any_inserted : (p : Event → Bool) (x : Event) (xs : List Event) → list_any p (insert event_before x xs) ≡ (p x || list_any p xs)
any_inserted p x [] = refl
any_inserted p x (y ∷ ys) =
    elim (cases_Bool (event_before y x)) [
      | inl b ↦ rw b (ap (λ c. p y || c) (any_inserted p x ys) ∙ either_first (p y) (p x) (list_any p ys))
      | inr b ↦ rw b refl
    ]

pub any_in_order : (p : Event → Bool) (xs : List Event) → list_any p (in_order event_before xs) ≡ list_any p xs
unfolding in_order
any_in_order p [] = refl
any_in_order p (x ∷ xs) = any_inserted p x (in_order event_before xs) ∙ ap (λ c. p x || c) (any_in_order p xs)

-- two lists, put in order together
pub any_of_both : (p : Event → Bool) (xs ys now : List Event) → in_order event_before (xs ++ ys) ≡ now → (list_any p xs || list_any p ys) ≡ list_any p now
any_of_both p xs ys now h = sym (list_any-append p xs ys) ∙ sym (any_in_order p (xs ++ ys)) ∙ ap (list_any p) h

-- the lists one by one
pub any_together : (p : Event → Bool) (lists : List (List Event)) → list_any (λ xs. list_any p xs) lists ≡ list_any p (together lists)
any_together p [] = refl
any_together p (xs ∷ lists) = ap (λ c. list_any p xs || c) (any_together p lists) ∙ sym (list_any-append p xs (together lists))

-- where none is before the limit
both_false : (a : Bool) → (a && false) ≡ false
both_false true = refl
both_false false = refl

both_true : (a : Bool) → (a && true) ≡ a
both_true true = refl
both_true false = refl

module _ (router limit : ℕ) where
  late : (e : Event) → limit ≤ e.time → is_before router limit e ≡ false
  late e h = ap (λ b. (e.dst == router) && b) (le-ltb e.time limit h) ∙ both_false (e.dst == router)

  pub none_early : (xs : List Event) → ((e : Event) → 0 < times event_same e xs → limit ≤ e.time) → list_any (is_before router limit) xs ≡ false
  none_early [] h = refl
  none_early (x ∷ xs) h =
      let own = one_self event_before event_same event_law x in
      rw (late x (h x (omega arith)), none_early xs (λ e there. h e (omega arith))) refl

  -- updates of one time
  pub updates_late : (time : ℕ) (us : List Update) → limit ≤ time → list_any (is_before router limit) (events_at time us) ≡ false
  updates_late time [] h = refl
  updates_late time (u ∷ us) h = rw (late (event_at time u) h, updates_late time us h) refl

  pub updates_early : (time : ℕ) (us : List Update) → time < limit → list_any (λ u. u.dst == router) us ≡ list_any (is_before router limit) (events_at time us)
  updates_early time [] h = refl
  updates_early time (u ∷ us) h =
      let early = lt-ltb time limit h in
      ap (λ b. b || list_any (λ v. v.dst == router) us) (sym (both_true (u.dst == router)) ∙ ap (λ b. (u.dst == router) && b) (sym early))
      ∙ ap (λ b. is_before router limit (event_at time u) || b) (updates_early time us h)

-- ---- what is found in one of two lists, put in order together

either_true : (a : Bool) → (a || true) ≡ true
either_true true = refl
either_true false = refl

either_false : (a : Bool) → (a || false) ≡ a
either_false true = refl
either_false false = refl

module _ (p : Event → Bool) (a b : Bool) (xs ys now : List Event) (view : in_order event_before (xs ++ ys) ≡ now) where
  pub found_first : a ≡ list_any p xs → a ≡ true → a ≡ list_any p now
  found_first is found = found ∙ ap (λ c. c || list_any p ys) (sym found ∙ is) ∙ any_of_both p xs ys now view

  pub found_next : a ≡ list_any p xs → a ≡ false → b ≡ list_any p ys → b ≡ list_any p now
  found_next is none other = other ∙ ap (λ c. c || list_any p ys) (sym none ∙ is) ∙ any_of_both p xs ys now view

  pub found_behind : b ≡ list_any p ys → b ≡ true → b ≡ list_any p now
  found_behind is found = found ∙ sym (either_true (list_any p xs)) ∙ ap (λ c. list_any p xs || c) (sym found ∙ is) ∙ any_of_both p xs ys now view

  pub found_before : b ≡ list_any p ys → b ≡ false → a ≡ list_any p xs → a ≡ list_any p now
  found_before is none other =
      other ∙ sym (either_false (list_any p xs)) ∙ ap (λ c. list_any p xs || c) (sym none ∙ is) ∙ any_of_both p xs ys now view

-- in one list
pub found_in : (p : Event → Bool) (a : Bool) (lists : List (List Event)) (now : List Event) → in_order event_before (together lists) ≡ now
    → a ≡ list_any (λ xs. list_any p xs) lists → a ≡ list_any p now
found_in p a lists now view is = is ∙ any_together p lists ∙ sym (any_in_order p (together lists)) ∙ ap (list_any p) view

-- a list whose events are all late
pub all_late : (router limit : ℕ) (xs now : List Event) → in_order event_before xs ≡ now → ((e : Event) → 0 < times event_same e xs → limit ≤ e.time)
    → false ≡ list_any (is_before router limit) now
all_late router limit xs now view h = sym (none_early router limit xs h) ∙ sym (any_in_order (is_before router limit) xs) ∙ ap (list_any (is_before router limit)) view

-- ---- by the first event for the router, in a list that rises

module _ (router limit : ℕ) where
  pub first_early : (xs : List Event) → IsRising event_before event_same xs → (f : Event) → slice_get (filter (λ e. e.dst == router) xs) 0 ≡ Some f
      → nat_lt f.time limit ≡ list_any (is_before router limit) xs
  first_early [] r f h = absurd (none-some f h)
  first_early (x ∷ xs) r f h =
      elim (cases_Bool (x.dst == router)) [
        | inl here ↦
            let first : slice_get (x ∷ filter (λ e. e.dst == router) xs) 0 ≡ Some f = rw here at h in
            let same : x ≡ f = same_some x f first in
            ap (λ e. nat_lt e.time limit) (sym same) ∙ rw here (own (cases_Bool (nat_lt x.time limit)))
        | inr other ↦
            let later : slice_get (filter (λ e. e.dst == router) xs) 0 ≡ Some f = rw other at h in
            rw other (first_early xs r.1 f later)
      ]
    where
      own : (nat_lt x.time limit ≡ true) ⊎ (nat_lt x.time limit ≡ false) → nat_lt x.time limit ≡ (nat_lt x.time limit || list_any (is_before router limit) xs)
      own (inl b) = rw b refl
      own (inr b) =
          let late = none_early router limit xs (λ e there. let l = not_earlier e x (r.0 e there) in let m = ltb-false x.time limit b in omega arith) in
          rw (b, late) refl

  pub none_for : (xs : List Event) → slice_get (filter (λ e. e.dst == router) xs) 0 ≡ None → false ≡ list_any (is_before router limit) xs
  none_for [] h = refl
  none_for (x ∷ xs) h =
      elim (cases_Bool (x.dst == router)) [
        | inl here ↦
            let first : slice_get (x ∷ filter (λ e. e.dst == router) xs) 0 ≡ None = rw here at h in
            absurd (none-some x (sym first))
        | inr other ↦
            let later : slice_get (filter (λ e. e.dst == router) xs) 0 ≡ None = rw other at h in
            rw other (none_for xs later)
      ]

-- ---- lists 64 at a time

module _ (p : List Event → Bool) where
  -- the next 64 lists and those behind them
  pub any_split : (start : ℕ) (lists : List (List Event)) → list_any p (drop start lists) ≡ (list_any p (take 64 (drop start lists)) || list_any p (drop (start + 64) lists))
  any_split start lists =
      ap (list_any p) (sym (take-append-drop 64 (drop start lists))) ∙ list_any-append p (take 64 (drop start lists)) (drop 64 (drop start lists))
      ∙ ap (λ xs. list_any p (take 64 (drop start lists)) || list_any p xs) (drop-drop 64 start lists)

  none_each : (lists : List (List Event)) → ((i : ℕ) → i < length lists → p (get_or lists i []) ≡ false) → list_any p lists ≡ false
  none_each [] h = refl
  none_each (xs ∷ lists) h = rw (h 0 (omega arith), none_each lists (λ i l. h (suc i) (omega arith))) refl

-- where no place of a word is marked, its lists are empty
pub none_of_word : (router limit : ℕ) (lists : List (List Event)) (words : List ℕ) (word : ℕ) → length lists ≡ 1024 → ((i : ℕ) → i < 1024 → 0 < length (get_or lists i []) → mark_at words i ≡ 1)
    → ((i : ℕ) → i < 64 → mark_at words (word * 64 + i) ≡ 0) → word < 16 → false ≡ list_any (λ events. list_any (is_before router limit) events) (take 64 (drop (word * 64) lists))
none_of_word router limit lists words word number marked clear within =
    sym (none_each (λ events. list_any (is_before router limit) events) (take 64 (drop (word * 64) lists)) (λ i l.
    let short : i < 64 = let m = length-take 64 (drop (word * 64) lists) in omega arith in
    let is : get_or (take 64 (drop (word * 64) lists)) i [] ≡ get_or lists (word * 64 + i) [] = get_or-take 64 (drop (word * 64) lists) i [] short ∙ get_or-drop (word * 64) lists i [] in
    ap (list_any (is_before router limit)) (is ∙ no_length (get_or lists (word * 64 + i) [])
    (none (length (get_or lists (word * 64 + i) [])) (λ some.
    let c : 0 ≡ 1 = sym (clear i short) ∙ marked (word * 64 + i) (omega arith) some in
    absurd (omega (arith, c)))))))
