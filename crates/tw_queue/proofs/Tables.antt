-- The queues of all routers.
use Rattle.std.proofs.Common.{◌≡◌, ◌≤◌, ◌<◌, ◌+◌, ℕ, suc, zero, Option, Some, None, List, [], ◌∷◌}
use Rattle.std.proofs.Common.{map, replicate, length, get_or, set, slice_get, refl, ap, sym, ◌∙◌, subst, inl, inr, arith, get_or-set_same, get_or-set_other}
use Rattle.std.proofs.lemmas.Bool.{cases_eq, cases_lt}
use Rattle.std.proofs.lemmas.List.{get_or-map, get_or_past, get_or_read, length-map, map-set}
use Rattle.std.proofs.lemmas.Option.{none-some}
use Rattle.tw_event.specs.declared.event.Event.{Event}
use Rattle.tw_event.specs.Order.{event_before, event_same}
use Rattle.tw_sim.specs.Ordered.{insert, one, take_out, times}
use Rattle.tw_sim.specs.Rising.{IsRising}
use Rattle.tw_sim.proofs.Counts.{none}
use Rattle.tw_sim.proofs.Ordered.{all_counted, one_cases, times-insert}
use Rattle.tw_calendar.proofs.Merged.{first_time_low}
use Rattle.tw_ordered.specs.Buckets.{IsPlaced, together}
use Rattle.tw_ordered.specs.InOrder.{in_order}
use Rattle.tw_queue.specs.Least.{IsFirstLeast}
use Rattle.tw_queue.specs.InTable.{IsInOrder}
use Rattle.tw_ordered.specs.Times.{first_time, never}
use Rattle.tw_ordered.proofs.Ordered.{rising-in_order, times-in_order}
use Rattle.tw_ordered.proofs.Events.{IsLeast, event_law, first_is_least, first_of_least, not_before_first, nothing, same_some}
use Rattle.tw_ordered.proofs.Lists.{times-placed, times-take_out-le}
use Rattle.tw_ordered.proofs.Keyed.{empty_queue}

time_of_first : (xs : List Event) (m : Event) → slice_get xs 0 ≡ Some m → first_time xs ≡ m.time
time_of_first [] m h = absurd (none-some m h)
time_of_first (x ∷ xs) m h = ap (λ e. e.time) (same_some x m h)

time_of_none : (xs : List Event) → slice_get xs 0 ≡ None → first_time xs ≡ never
time_of_none [] h = refl
time_of_none (x ∷ xs) h = absurd (none-some x (sym h))

no_lists : (lists : List (List Event)) → map first_time lists ≡ [] → lists ≡ []
no_lists [] h = refl
no_lists (xs ∷ lists) h = grind arith

module _ (lists : List (List Event)) (placed : IsPlaced (λ e. e.dst) lists) where
  -- an event is in its router's queue
  pub in_queue : (e : Event) → 0 < times event_same e (together lists) → 0 < times event_same e (get_or lists e.dst [])
  in_queue e there = subst (λ n. 0 < n) (times-placed (λ d. d.dst) lists placed e) there

  pub within : (e : Event) → 0 < times event_same e (together lists) → e.dst < length lists
  within e there =
      elim (cases_lt e.dst (length lists)) [
        | inl l ↦ l
        | inr l ↦
            let h = in_queue e there in
            let z = ap (times event_same e) (get_or_past lists e.dst [] l) in
            absurd (omega arith)
      ]

  -- what the whole table is for
  pub table_in_order : IsInOrder (record { routers = length lists; events = in_order event_before (together lists) })
  table_in_order = grind (arith, rising-in_order, event_law, all_counted, within, times-in_order)

  -- the queue of the first least time has the least event
  module _ (rising : (r : ℕ) → IsRising event_before event_same (get_or lists r [])) (early : (r : ℕ) (e : Event) → 0 < times event_same e (get_or lists r []) → e.time < never)
      (row : List ℕ) (row_is : row ≡ map first_time lists) (r : ℕ) (first : IsFirstLeast row r) where
    at : (s : ℕ) → s < length lists → get_or row s 0 ≡ first_time (get_or lists s [])
    at s l = ap (λ xs. get_or xs s 0) row_is ∙ get_or-map first_time lists s [] 0 l

    long : length row ≡ length lists
    long = ap (λ xs. length xs) row_is ∙ length-map lists first_time

    inside : r < length lists
    inside = grind (arith, long)

    -- an event anywhere is no sooner than the least time
    low : (e : Event) → 0 < times event_same e (together lists) → first_time (get_or lists r []) ≤ e.time
    low e there =
        let l = within e there in
        let b = long in
        let a = first.least e.dst (omega arith) in
        let mine = at r inside in
        let its = at e.dst l in
        let time = first_time_low (get_or lists e.dst []) (rising e.dst) e (in_queue e there) in
        omega arith

    sooner : (e : Event) → 0 < times event_same e (together lists) → e.dst < r → first_time (get_or lists r []) < e.time
    sooner e there before =
        let l = within e there in
        let a = first.first e.dst before in
        let mine = at r inside in
        let its = at e.dst l in
        let time = first_time_low (get_or lists e.dst []) (rising e.dst) e (in_queue e there) in
        omega arith

    is_least : (m : Event) → slice_get (get_or lists r []) 0 ≡ Some m → IsLeast m (together lists)
    is_least m h =
        let queue = get_or lists r [] in
        let own = first_is_least m queue queue (rising r) (λ x. refl) h in
        let home : m.dst ≡ r = placed r m own.there in
        let time : first_time queue ≡ m.time = time_of_first queue m h in
        record {
          there =
              let k = times-placed (λ d. d.dst) lists placed m ∙ ap (λ n. times event_same m (get_or lists n [])) home in
              subst (λ n. 0 < n) (sym k) own.there;
          first = λ x there.
              elim (cases_eq x.dst r) [
                | inl q ↦ own.first x (subst (λ n. 0 < times event_same x (get_or lists n [])) q (in_queue x there))
                | inr n ↦
                    let l = low x there in
                    not_before_first m x (omega arith) (λ e.
                    elim (cases_lt x.dst r) [
                      | inl before ↦ grind (arith, sooner)
                      | inr after ↦ omega (arith, n)
                    ])
              ];
        }

    no_events : slice_get (get_or lists r []) 0 ≡ None → together lists ≡ []
    no_events h =
        nothing (together lists) (λ e.
        none (times event_same e (together lists)) (λ there.
        let l = low e there in
        let z = time_of_none (get_or lists r []) h in
        let s = early e.dst e (in_queue e there) in
        omega arith))

    first_of_all : (o : Option Event) → slice_get (get_or lists r []) 0 ≡ o → slice_get (in_order event_before (together lists)) 0 ≡ o
    unfolding in_order
    first_of_all None h = rw (no_events h) refl
    first_of_all (Some m) h = first_of_least m (together lists) (is_least m h)

    pub first_of_table : slice_get (get_or lists r []) 0 ≡ slice_get (in_order event_before (together lists)) 0
    first_of_table = sym (first_of_all _ refl)

    -- as it is read
    pub read_first : (queue : List Event) → queue ≡ get_or lists r queue → slice_get queue 0 ≡ slice_get (in_order event_before (together lists)) 0
    read_first queue h =
        ap (λ xs. slice_get xs 0) (get_or_read lists r queue inside h []) ∙ first_of_table

  pub no_row : (row : List ℕ) → row ≡ map first_time lists → row ≡ [] → slice_get (in_order event_before (together lists)) 0 ≡ None
  unfolding in_order
  no_row row h k = rw (no_lists lists (sym h ∙ k)) refl

-- one queue changes
module _ (lists : List (List Event)) (i : ℕ) (within : i < length lists) (qs : List Event) where
  pub early_set : ((r : ℕ) (e : Event) → 0 < times event_same e (get_or lists r []) → e.time < never) → ((e : Event) → 0 < times event_same e qs → e.time < never)
      → (r : ℕ) (e : Event) → 0 < times event_same e (get_or (set lists i qs) r []) → e.time < never
  early_set old new r e there = grind (arith, cases_eq, set, get_or-set_same, within, get_or-set_other)

  pub row_set : (row new : List ℕ) (time : ℕ) → row ≡ map first_time lists → time ≡ first_time qs → new ≡ set row i time → new ≡ map first_time (set lists i qs)
  row_set row new time old t h =
      h ∙ ap (λ n. set row i n) t ∙ ap (λ xs. set xs i (first_time qs)) old ∙ sym (map-set first_time lists i qs)

-- no events
pub empty_row : (n : ℕ) → replicate n never ≡ map first_time (replicate n [])
empty_row zero = refl
empty_row (suc n) = ap (λ xs. never ∷ xs) (empty_row n)

pub empty_early : (n : ℕ) (lists : List (List Event)) → lists ≡ replicate n [] → (r : ℕ) (e : Event) → 0 < times event_same e (get_or lists r []) → e.time < never
empty_early n lists are r e there = grind (arith, empty_queue)

-- an event goes into its router's queue, or comes out of it
module _ (lists : List (List Event)) (early : (r : ℕ) (e : Event) → 0 < times event_same e (get_or lists r []) → e.time < never) (e : Event) (within : e.dst < length lists)
    (queue : List Event) (queue_is : queue ≡ get_or lists e.dst queue) (qs : List Event) where
  read : queue ≡ get_or lists e.dst []
  read = get_or_read lists e.dst queue within queue_is []

  pub queue_early : qs ≡ insert event_before e queue → e.time < never → (r : ℕ) (d : Event) → 0 < times event_same d (get_or (set lists e.dst qs) r []) → d.time < never
  queue_early more soon =
      early_set lists e.dst within qs early (λ d there.
      let h = ap (times event_same d) more ∙ times-insert event_before event_same d e queue ∙ ap (λ xs. one event_same d e + times event_same d xs) read in
      elim (one_cases event_before event_same event_law d e) [
        | inl z ↦ early e.dst d (omega arith)
        | inr q ↦ subst (λ x. x.time < never) (sym q) soon
      ])

  pub left_early : qs ≡ take_out event_same e queue → (r : ℕ) (d : Event) → 0 < times event_same d (get_or (set lists e.dst qs) r []) → d.time < never
  left_early less = grind (arith, early_set, within, read, times-take_out-le)
