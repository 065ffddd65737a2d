-- The wheel: its buckets, and what they have of time.
use Rattle.std.proofs.Common.{◌≡◌, ◌≢◌, ◌≤◌, ◌<◌, ◌+◌, ◌*◌, ◌/◌, ◌%◌, ◌↔◌, ◌++◌, ℕ, true, false, Bool, IsTrue, nat_lt, Some, None, List, [], ◌∷◌}
use Rattle.std.proofs.Common.{length, get_or, set, option_map, slice_get, refl, ap, sym, ◌∙◌, subst, inl, inr, arith}
use Rattle.std.specs.Bool.{OnFalse, OnTrue}
use Rattle.std.proofs.lemmas.Bool.{false≢true, lt-ltb}
use Rattle.std.proofs.lemmas.List.{get_or_read}
use Rattle.std.proofs.lemmas.Option.{none-some}
use Rattle.tw_event.specs.declared.event.Event.{Event}
use Rattle.tw_event.specs.Order.{event_before, event_same}
use Rattle.tw_event.proofs.Order.{before_time}
use Rattle.tw_sim.specs.Ordered.{take_out, times}
use Rattle.tw_sim.proofs.Counts.{none}
use Rattle.tw_sim.proofs.Ordered.{one_cases, one_self}
use Rattle.tw_ordered.specs.Buckets.{together}
use Rattle.tw_ordered.specs.InOrder.{in_order, least_with}
use Rattle.tw_calendar.specs.Wheel.{width_of}
use Rattle.tw_calendar.specs.Turn.{IsFirstMark, IsTurn, mark_at}
use Rattle.tw_ordered.proofs.Ordered.{in_order-taken, take_out_none, times-in_order}
use Rattle.tw_ordered.proofs.Events.{event_law, same_some}
use Rattle.tw_ordered.proofs.Released.{no_length}
use Rattle.tw_ordered.proofs.Lists.{times-push, times-set, times-take_out-le}
use Rattle.tw_calendar.proofs.Turns.{cut_counts, first_least, least_all, none_marked, place_within, placed_count, taken_is, turn_less}

no_first : (xs : List Event) → None ≡ option_map (λ e. e.time) (slice_get xs 0) → xs ≡ []
no_first [] h = refl
no_first (x ∷ xs) h = absurd (none-some x.time h)

-- the first of some events has the time that is told
first_has : (xs : List Event) (time : ℕ) → Some time ≡ option_map (λ e. e.time) (slice_get xs 0) → (d : Event) × (0 < times event_same d xs) × (time ≡ d.time)
first_has [] time h = absurd (none-some time (sym h))
first_has (x ∷ xs) time h =
    let own = one_self event_before event_same event_law x in
    (x, omega arith, same_some time x.time h)

pub begun_low : (time : ℕ) (e : Event) → time / 1024 ≤ width_of e → time / 1024 * 1024 ≤ e.time
begun_low time e l = omega arith

width_mono : {m n : ℕ} → m ≤ n → m / 1024 ≤ n / 1024
width_mono l = omega arith

-- a start before all events is in a width that is not after theirs
pub later_width : (start width : ℕ) (e : Event) → start ≤ e.time → (start / 1024 ≤ width → ⊥) → width < width_of e
later_width start width e l h = omega arith

-- what is in order is what there is
pub in_all : (e : Event) (xs : List Event) → 0 < times event_same e xs → 0 < times event_same e (in_order event_before xs)
in_all e xs h = subst (λ n. 0 < n) (sym (times-in_order event_before event_same event_law e xs)) h

pub of_all : (e : Event) (xs : List Event) → 0 < times event_same e (in_order event_before xs) → 0 < times event_same e xs
of_all e xs h = subst (λ n. 0 < n) (times-in_order event_before event_same event_law e xs) h

-- an event goes into a bucket, and the start is not after it
pub start_put : (start new : ℕ) (e : Event) (p : ℕ) (lists : List (List Event)) → p < length lists → (qs : List Event) → qs ≡ get_or lists p [] ++ e ∷ []
    → ((d : Event) → 0 < times event_same d (together lists) → start ≤ d.time) → new ≤ start → new ≤ e.time → (d : Event) → 0 < times event_same d (together (set lists p qs)) → new ≤ d.time
start_put start new e p lists within qs more before low own d there =
    let c = times-set p qs lists within d in
    let n = ap (times event_same d) more in
    let m = times-push d e (get_or lists p []) in
    elim (one_cases event_before event_same event_law d e) [
      | inl z ↦
          let l = before d (omega arith) in
          omega arith
      | inr q ↦
          let t = ap (λ x. x.time) q in
          omega arith
    ]

-- where a bucket has less, the start stays before all events
pub start_less : (start : ℕ) (p : ℕ) (lists : List (List Event)) → p < length lists → (qs : List Event) → ((d : Event) → times event_same d qs ≤ times event_same d (get_or lists p []))
    → ((d : Event) → 0 < times event_same d (together lists) → start ≤ d.time) → (d : Event) → 0 < times event_same d (together (set lists p qs)) → start ≤ d.time
start_less start p lists within qs less before d there =
    let c = times-set p qs lists within d in
    let n = less d in
    before d (omega arith)

-- a mark that is told by how many events there are
pub marked_more : {P : Type 0} (n : ℕ) → 0 < n → OnTrue (nat_lt 0 n) P → P
marked_more {P = P} n l h = subst (λ b. OnTrue b P) (lt-ltb 0 n l) h

pub marked_none : {P : Type 0} (n : ℕ) → n ≡ 0 → OnFalse (nat_lt 0 n) P → P
marked_none {P = P} n q h = subst (λ m. OnFalse (nat_lt 0 m) P) q h

module _ (base : ℕ) (marks : List ℕ) (lists : List (List Event)) (t : IsTurn width_of base marks lists) where
  module _ (p : ℕ) (f : IsFirstMark marks base p) (bucket : List Event) (is : bucket ≡ get_or lists p bucket) where
    read : bucket ≡ get_or lists p []
    read =
        let n = t.number in
        let at = f.at in
        get_or_read lists p bucket (omega arith) is []

    -- the width of the first bucket is begun before all events
    pub start_low : (time : ℕ) → Some time ≡ option_map (λ e. e.time) (slice_get bucket 0) → (e : Event) → 0 < times event_same e (in_order event_before (together lists))
        → time / 1024 * 1024 ≤ e.time
    start_low time h e there =
        let d = first_has bucket time h in
        let in_it = subst (λ xs. 0 < times event_same d.0 xs) read d.1 in
        let l = first_least width_of base marks lists t p f d.0 e in_it (of_all e (together lists) there) in
        begun_low time e (subst (λ n. n / 1024 ≤ width_of e) (sym d.2) l)

    -- without a first event there are none
    pub start_none : None ≡ option_map (λ e. e.time) (slice_get bucket 0) → (e : Event) → 0 < times event_same e (in_order event_before (together lists)) → ⊥
    start_none h e there =
        let z = none_marked width_of base marks lists t p f (sym read ∙ no_first bucket h) in
        let n = ap (times event_same e) z in
        let l = of_all e (together lists) there in
        omega arith

    pub none_there : length bucket ≡ 0 → (e : Event) → times event_same e (in_order event_before (together lists)) ≡ 0
    none_there h e =
        let z = none_marked width_of base marks lists t p f (sym read ∙ no_length bucket h) in
        let n = ap (times event_same e) z in
        let l = times-in_order event_before event_same event_law e (together lists) in
        omega arith

    -- the least event of the first bucket is the least of all
    pub least_of_bucket : least_with None bucket ≡ slice_get (in_order event_before (together lists)) 0
    least_of_bucket = ap (least_with None) read ∙ least_all width_of base marks lists t p f (λ d e b. width_mono (before_time d e b))

    -- some events of the first bucket go down
    module _ (less : List Event) (fewer : (e : Event) → times event_same e less ≤ times event_same e bucket) where
      fewer_there : (e : Event) → times event_same e less ≤ times event_same e (get_or lists p [])
      fewer_there e =
          let l = fewer e in
          let r = ap (times event_same e) read in
          omega arith

      within : p < length lists
      within =
          let n = t.number in
          let at = f.at in
          omega arith

      pub turn_sent : (n : ℕ) → n ≡ length less → (new : List ℕ) → OnTrue (nat_lt 0 n) (mark_at new p ≡ 1) → OnFalse (nat_lt 0 n) (mark_at new p ≡ 0)
          → ((i : ℕ) → i < 1024 → i ≢ p → mark_at new i ≡ mark_at marks i) → IsTurn width_of base new (set lists p less)
      turn_sent n is_length new mark unmark others =
          turn_less width_of base marks lists t p (place_within width_of base marks lists t p f) less fewer_there new (λ l. marked_more n (omega (arith, is_length, l)) mark)
          (λ z. marked_none n (is_length ∙ ap length z) unmark) others

      pub start_sent : (start : ℕ) → ((d : Event) → 0 < times event_same d (together lists) → start ≤ d.time) → (d : Event) → 0 < times event_same d (together (set lists p less)) → start ≤ d.time
      start_sent start before = start_less start p lists within less fewer_there before

      pub count_sent : (e : Event) → times event_same e (in_order event_before (together (set lists p less))) + times event_same e bucket ≡ times event_same e (in_order event_before (together lists)) + times event_same e less
      count_sent e =
          let s = times-set p less lists within e in
          let a = times-in_order event_before event_same event_law e (together (set lists p less)) in
          let b = times-in_order event_before event_same event_law e (together lists) in
          let r = ap (times event_same e) read in
          omega arith

  -- one event is taken out of its bucket
  module _ (e : Event) (p : ℕ) (p_is : p ≡ width_of e % 1024) (bucket : List Event) (is : bucket ≡ get_or lists p bucket) (less : List Event) (less_is : less ≡ take_out event_same e bucket) where
    pub found_there : (found : Bool) → IsTrue found ↔ (0 < times event_same e bucket) → IsTrue found ↔ (0 < times event_same e (in_order event_before (together lists)))
    found_there found h =
        let q : times event_same e bucket ≡ times event_same e (in_order event_before (together lists)) =
        sym (placed_count width_of base marks lists t e p p_is bucket is less less_is) ∙ sym (times-in_order event_before event_same event_law e (together lists)) in
        subst (λ n. IsTrue found ↔ (0 < n)) q h

    pub order_taken : in_order event_before (together (set lists p less)) ≡ take_out event_same e (in_order event_before (together lists))
    order_taken =
        in_order-taken event_before event_same event_law (together lists) (together (set lists p less)) bucket less
        (cut_counts width_of base marks lists t e p p_is bucket is less less_is) e (placed_count width_of base marks lists t e p p_is bucket is less less_is) less_is

    pub start_taken : (start : ℕ) → ((d : Event) → 0 < times event_same d (together lists) → start ≤ d.time) → (d : Event) → 0 < times event_same d (together (set lists p less)) → start ≤ d.time
    start_taken start before =
        let n = t.number in
        start_less start p lists (omega arith) less (λ d.
        let c = ap (times event_same d) (taken_is width_of base marks lists t e p p_is bucket is less less_is) in
        let l = times-take_out-le d e (get_or lists p []) in
        omega arith) before

-- where an event is not found, nothing is taken out
pub not_found : (found : Bool) (e : Event) (old new : List Event) → IsTrue found ↔ (0 < times event_same e old) → new ≡ take_out event_same e old → OnFalse found (new ≡ old)
not_found true e old new h taken = tt
not_found false e old new h taken =
    taken ∙ take_out_none event_before event_same event_law e old (none (times event_same e old) (λ there. false≢true (h.1 there)))
