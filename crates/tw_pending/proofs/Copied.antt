-- Copies of events that wait, behind others.
use Rattle.std.proofs.Common.{◌≡◌, ℕ, ◌+◌, ◌<◌, ◌≤◌, List, [], ◌++◌, Err, Ok, Result, cond, IsOk, append_assoc, append-nil, drop, get_or, length, length-append, ap, sym, ◌∙◌, arith}
use Rattle.std.proofs.lemmas.List.{drop_all}
use Rattle.std.specs.Result.{is_ok}
use Rattle.std.specs.declared.cmp.Ordering.{Ordering}
use Rattle.std.specs.declared.cmp.Reverse.{Reverse}
use Rattle.std.specs.declared.vec.Vec.{Vec}
use Rattle.tw_pending.specs.Order.{AreWith, count, in_order}
use Rattle.tw_pending.specs.Ring.{all_in, all_of, events_of, lists_of}
use Rattle.tw_pending.proofs.All.{count-append}
use Rattle.tw_pending.proofs.Counts.{count-in_order}
use Rattle.tw_pending.proofs.Walks.{split}

-- what a call leaves that goes well
pub where_ok : {T F X : Type 0} (r : Result T F) → IsOk r → (now more old : X) → now ≡ cond (is_ok r) more old → now ≡ more
where_ok (Ok x) ok now more old is = is
where_ok (Err x) ok now more old is = absurd (cc)

module _ {E Z : Type 0} where
  -- what stands in lists from a place on
  abbrev pub left_in : ℕ → List (Vec E Z) → List E
  left_in i days = all_of (lists_of (drop i days))

  module _ (days : List (Vec E Z)) (i : ℕ) (day : Vec E Z) (l : i < length days) (is : day ≡ get_or days i day) where
    next_list : left_in i days ≡ day.items ++ left_in (i + 1) days
    next_list = ap (λ ds. all_of (lists_of ds)) (split days i day l is)

    -- a list goes behind those before it
    pub copied : (all before after copy : List E) → after ≡ before ++ copy → copy ≡ day.items → before ++ left_in i days ≡ all → after ++ left_in (i + 1) days ≡ all
    copied all before after copy more same told =
        ap (λ ys. ys ++ left_in (i + 1) days) (more ∙ ap (λ ys. before ++ ys) same)
        ∙ (append_assoc before day.items (left_in (i + 1) days) ∙ (ap (λ zs. before ++ zs) (sym next_list) ∙ told))

    -- and what is left needs less room
    pub room_left : length (left_in i days) ≡ length day.items + length (left_in (i + 1) days)
    room_left = ap length next_list ∙ length-append day.items (left_in (i + 1) days)

  -- and in the end all is copied
  pub all_copied : (days : List (Vec E Z)) (i : ℕ) → length days ≤ i → (all before : List E) → before ++ left_in i days ≡ all → before ≡ all
  all_copied days i le all before told = sym (append-nil before) ∙ (ap (λ ds. before ++ all_of (lists_of ds)) (sym (drop_all i days le)) ∙ told)

module _ {E : Type 0} (cmp : E → E → Ordering) where
  -- what is copied stands behind what stood there
  more_behind : (waits old new : List E) → new ≡ old ++ waits → AreWith cmp (in_order cmp waits) old new
  more_behind waits old new is = λ e.
      let a = ap (count cmp e) is in
      let b = count-append cmp e old waits in
      let c = count-in_order cmp e waits in
      omega arith

  pub heap_behind : (items : List (Reverse E)) (old new : List E) → new ≡ old ++ events_of items → AreWith cmp (all_in cmp [] items []) old new
  heap_behind items old new is = more_behind (events_of items ++ []) old new (is ∙ ap (λ xs. old ++ xs) (sym (append-nil (events_of items))))

  pub all_behind : (tick : List E) (items : List (Reverse E)) (days : List (List E)) (old new : List E) → new ≡ ((old ++ tick) ++ events_of items) ++ all_of days → AreWith cmp (all_in cmp tick items days) old new
  all_behind tick items days old new is =
      let heap = events_of items in
      let rest = all_of days in
      more_behind (tick ++ (heap ++ rest)) old new
      (is ∙ (append_assoc (old ++ tick) heap rest ∙ append_assoc old tick (heap ++ rest)))
