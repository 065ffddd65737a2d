-- How often events stand in a tick, a heap and lists, when one comes, or moves from a list to the tick.
use Rattle.std.proofs.Common.{◌≡◌, ℕ, zero, suc, ◌+◌, List, [], ◌∷◌, ◌++◌, Some, set, slice_get, ap, arith}
use Rattle.std.specs.Cmp.{IsTotalOrder}
use Rattle.std.specs.declared.cmp.Ordering.{Ordering}
use Rattle.std.specs.declared.cmp.Ordering.TheVariants.{Equal}
use Rattle.std.specs.declared.cmp.Reverse.{Reverse}
use Rattle.tw_sim.specs.Ordered.{insert_all}
use Rattle.tw_pending.specs.Order.{AreWith, count, in_order, is_before}
use Rattle.tw_pending.specs.Ring.{all_in, all_of, events_of, waiting_in}
use Rattle.tw_pending.proofs.Counts.{count-in_order, more_in_order}

module _ {E : Type 0} (cmp : E → E → Ordering) where
  pub count-append : (e : E) (xs ys : List E) → count cmp e (xs ++ ys) ≡ count cmp e xs + count cmp e ys
  count-append e [] ys = omega arith
  count-append e (x ∷ xs) ys = let k = count-append e xs ys in omega arith

  pub count_set : (e : E) (days : List (List E)) (i : ℕ) (day new : List E) → slice_get days i ≡ Some day
      → count cmp e (all_of (set days i new)) + count cmp e day ≡ count cmp e (all_of days) + count cmp e new
  count_set e [] i day new h = absurd (cc)
  count_set e (d ∷ ds) zero day new h =
      let is : d ≡ day = cc in
      let a = count-append e new (all_of ds) in
      let b = count-append e d (all_of ds) in
      let c : count cmp e d ≡ count cmp e day = ap (count cmp e) is in
      omega arith
  count_set e (d ∷ ds) (suc i) day new h =
      let k = count_set e ds i day new h in
      let a = count-append e d (all_of (set ds i new)) in
      let b = count-append e d (all_of ds) in
      omega arith

  -- one more stands in a day's list
  pub kept_one : (days : List (List E)) (i : ℕ) (day : List E) (x : E) → slice_get days i ≡ Some day
      → AreWith cmp (x ∷ []) (all_of days) (all_of (set days i (day ++ x ∷ [])))
  kept_one days i day x h = λ e. let a = count_set e days i day (day ++ x ∷ []) h in let b = count-append e day (x ∷ []) in omega arith

  -- a day's events are those of the tick
  pub begun_one : (days : List (List E)) (i : ℕ) (day : List E) → slice_get days i ≡ Some day
      → AreWith cmp [] (all_of days) (in_order cmp day ++ all_of (set days i []))
  begun_one days i day h = λ e.
      let a = count_set e days i day [] h in
      let b = count-in_order cmp e day in
      let c = count-append e (in_order cmp day) (all_of (set days i [])) in
      omega arith

  -- one more stands in the heap
  pub more_in_heap : (more : List E) (items new : List (Reverse E)) (days : List (List E)) → AreWith cmp more (events_of items) (events_of new)
      → AreWith cmp more (waiting_in items days) (waiting_in new days)
  more_in_heap more items new days h = λ e.
      let a = h e in
      let b = count-append e (events_of items) (all_of days) in
      let c = count-append e (events_of new) (all_of days) in
      omega arith

  -- or in the lists
  pub more_in_days : (more : List E) (items : List (Reverse E)) (days new : List (List E)) → AreWith cmp more (all_of days) (all_of new)
      → AreWith cmp more (waiting_in items days) (waiting_in items new)
  more_in_days more items days new h = λ e.
      let a = h e in
      let b = count-append e (events_of items) (all_of days) in
      let c = count-append e (events_of items) (all_of new) in
      omega arith

  module _ (order : IsTotalOrder cmp) (exact : (d e : E) → cmp d e ≡ Equal → d ≡ e) where
    -- more have come, and then the ring has gone on
    pub all_more : (more tick begun : List E) (items new : List (Reverse E)) (days kept left : List (List E)) → AreWith cmp more (waiting_in items days) (waiting_in new kept)
        → AreWith cmp [] (tick ++ all_of kept) (begun ++ all_of left) → all_in cmp begun new left ≡ insert_all (is_before cmp) more (all_in cmp tick items days)
    all_more more tick begun items new days kept left put gone =
        more_in_order cmp order exact more (tick ++ waiting_in items days) (begun ++ waiting_in new left) (λ e.
        let a = put e in
        let b = gone e in
        let c = count-append e tick (waiting_in items days) in
        let d = count-append e begun (waiting_in new left) in
        let f = count-append e (events_of new) (all_of kept) in
        let g = count-append e (events_of new) (all_of left) in
        let h = count-append e tick (all_of kept) in
        let i = count-append e begun (all_of left) in
        omega arith)

    -- the ring has gone on
    pub all_same : (tick begun : List E) (items : List (Reverse E)) (days left : List (List E)) → AreWith cmp [] (tick ++ all_of days) (begun ++ all_of left)
        → all_in cmp begun items left ≡ all_in cmp tick items days
    all_same tick begun items days left gone = all_more [] tick begun items items days days left (λ e. omega arith) gone
