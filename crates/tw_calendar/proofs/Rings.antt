-- Events by time: the tick at hand, and later ticks, each in its bucket.
use Rattle.std.proofs.Common.{◌≡◌, ◌≢◌, ◌≤◌, ◌<◌, ◌+◌, ◌%◌, ◌++◌, ℕ, suc, zero, false, Option, Some, None, List, [], ◌∷◌}
use Rattle.std.proofs.Common.{IfSome, length, drop, get_or, set, slice_get, refl, ap, sym, ◌∙◌, subst, inl, inr, arith, get_or-set_same}
use Rattle.tw_calendar.specs.Turn.{mark_at}
use Rattle.std.proofs.lemmas.Bool.{cases_lt}
use Rattle.std.proofs.lemmas.List.{drop_all, get_or_read}
use Rattle.tw_event.specs.declared.event.Event.{Event}
use Rattle.tw_event.specs.Order.{event_before, event_same}
use Rattle.tw_event.proofs.Order.{before_time}
use Rattle.tw_sim.specs.Ordered.{times}
use Rattle.tw_sim.specs.Rising.{IsRising}
use Rattle.tw_sim.proofs.Ordered.{all_counted, one_self}
use Rattle.tw_ordered.specs.Buckets.{together}
use Rattle.tw_ordered.specs.InOrder.{in_order, least_with}
use Rattle.tw_calendar.specs.Ring.{IsRing}
use Rattle.tw_ordered.specs.Times.{first_time, never}
use Rattle.tw_calendar.specs.Turn.{IsFirstMark, IsTurn}
use Rattle.tw_calendar.specs.declared.ring.Ring.TheInside.{Inside}
use Rattle.tw_ordered.proofs.Ordered.{cases_zero, in_order-times, in_order_least, rising-in_order, times-in_order}
use Rattle.tw_ordered.proofs.Events.{event_law, least_is, none_first, not_before_first, nothing}
use Rattle.tw_ordered.proofs.Lists.{times-append, times-set}
use Rattle.tw_calendar.proofs.Turns.{first_all, first_least, in_slot, least_all, none_marked, one_key, out_slot, place_within, turn_base, turn_emptied}

some_event : (xs : List Event) → 0 < length xs → (d : Event) × (0 < times event_same d xs)
some_event [] l = absurd (omega arith)
some_event (x ∷ xs) l =
    let own = one_self event_before event_same event_law x in
    (x, omega arith)

rising_left : (i : ℕ) (xs : List Event) → IsRising event_before event_same xs → IsRising event_before event_same (drop i xs)
rising_left zero xs h = h
rising_left (suc i) [] h = tt
rising_left (suc i) (x ∷ xs) h = rising_left i xs h.1

pub times_left : (i : ℕ) (e : Event) (xs : List Event) → 0 < times event_same e (drop i xs) → 0 < times event_same e xs
times_left zero e xs h = h
times_left (suc i) e [] h = h
times_left (suc i) e (x ∷ xs) h =
    let l = times_left i e xs h in
    omega arith

pub rising_rest : (xs : List Event) → IsRising event_before event_same xs → IsRising event_before event_same (drop 1 xs)
rising_rest xs h = rising_left 1 xs h

pub times_rest : (e : Event) (xs : List Event) → 0 < times event_same e (drop 1 xs) → 0 < times event_same e xs
times_rest e xs h = times_left 1 e xs h

suc_more : (i : ℕ) → suc (i + 1) ≡ suc i + 1
suc_more i = omega arith

pub drop_more : (i : ℕ) (xs : List Event) → drop (i + 1) xs ≡ drop 1 (drop i xs)
drop_more zero xs = refl
drop_more (suc i) [] = ap (λ n. drop n []) (sym (suc_more i))
drop_more (suc i) (x ∷ xs) = ap (λ n. drop n (x ∷ xs)) (sym (suc_more i)) ∙ drop_more i xs

pub some_left : (i : ℕ) (xs : List Event) → i < length xs → 0 < length (drop i xs)
some_left i [] l = absurd (omega arith)
some_left zero (x ∷ xs) l = l
some_left (suc i) (x ∷ xs) l = some_left i xs (omega arith)

pub slice_left : (i : ℕ) (xs : List Event) → slice_get xs i ≡ slice_get (drop i xs) 0
slice_left zero xs = refl
slice_left (suc i) [] = refl
slice_left (suc i) (x ∷ xs) = slice_left i xs

-- the time that a first event tells
abbrev told : Option Event → ℕ
told None = never
told (Some e) = e.time

first_told : (xs : List Event) → first_time xs ≡ told (slice_get xs 0)
first_told [] = refl
first_told (x ∷ xs) = refl

pub time_left : (t : ℕ) (xs : List Event) (i : ℕ) → i < length xs → IfSome (slice_get xs i) (λ e. e.time ≡ t) → t ≡ first_time (drop i xs)
time_left t [] i l h = absurd (omega arith)
time_left t (x ∷ xs) zero l h = sym h
time_left t (x ∷ xs) (suc i) l h = time_left t xs i (omega arith) h

-- the tick at hand comes first
module _ (tick : ℕ) (later : List Event) (after : (e : Event) → 0 < times event_same e later → tick < e.time) where
  pub hand_first : (hand : List Event) → IsRising event_before event_same hand → ((e : Event) → 0 < times event_same e hand → e.time ≤ tick)
      → in_order event_before (hand ++ later) ≡ hand ++ in_order event_before later
  unfolding in_order
  hand_first [] rising begun = refl
  hand_first (x ∷ xs) rising begun =
      let own = one_self event_before event_same event_law x in
      let soon = begun x (omega arith) in
      let least =
      all_counted event_before event_same event_law (λ y. event_before y x ≡ false) (xs ++ later) (λ y there.
      elim (cases_zero (times event_same y xs)) [
        | inl z ↦
            let n = times-append y xs later in
            let l = after y (omega arith) in
            not_before_first x y (omega arith) (λ q. absurd (omega arith))
        | inr h ↦ rising.0 y h
      ]) in
      in_order_least event_before event_same x (xs ++ later) least ∙ ap (λ r. x ∷ r) (hand_first xs rising.1 (λ e there. begun e (omega arith)))

  rest_shown : (xs : List Event) → 0 < length xs → drop 1 xs ++ in_order event_before later ≡ drop 1 (xs ++ in_order event_before later)
  rest_shown [] l = absurd (omega arith)
  rest_shown (x ∷ xs) l = refl

  first_shown : (xs : List Event) → 0 < length xs → slice_get xs 0 ≡ slice_get (xs ++ in_order event_before later) 0
  first_shown [] l = absurd (omega arith)
  first_shown (x ∷ xs) l = refl

  -- its first event is the least, and without that the others are left
  module _ (hand : List Event) (some : 0 < length hand) (rising : IsRising event_before event_same hand) (begun : (e : Event) → 0 < times event_same e hand → e.time ≤ tick) where
    pub first_taken : slice_get hand 0 ≡ slice_get (in_order event_before (hand ++ later)) 0
    first_taken = first_shown hand some ∙ ap (λ r. slice_get r 0) (sym (hand_first hand rising begun))

    pub time_taken : first_time hand ≡ first_time (in_order event_before (hand ++ later))
    time_taken = first_told hand ∙ ap told first_taken ∙ sym (first_told (in_order event_before (hand ++ later)))

    pub rest_taken : in_order event_before (drop 1 hand ++ later) ≡ drop 1 (in_order event_before (hand ++ later))
    rest_taken =
        hand_first (drop 1 hand) (rising_rest hand rising) (λ e there. begun e (times_rest e hand there)) ∙ rest_shown hand some ∙ ap (drop 1) (sym (hand_first hand rising begun))

-- events of one time have the first one's
time_one : (xs : List Event) → ((d e : Event) → 0 < times event_same d xs → 0 < times event_same e xs → d.time ≡ e.time) → (e : Event) → 0 < times event_same e xs → e.time ≡ first_time xs
time_one [] h e there = absurd (omega arith)
time_one (x ∷ xs) h e there =
    let own = one_self event_before event_same event_law x in
    h e x there (omega arith)

first_before : (xs : List Event) (n : ℕ) → (xs ≡ [] → ⊥) → ((d : Event) → 0 < times event_same d xs → d.time ≤ n) → first_time xs ≤ n
first_before [] n some h = absurd (some refl)
first_before (x ∷ xs) n some h =
    let own = one_self event_before event_same event_law x in
    h x (omega arith)

-- the first bucket of a ring
module _ (tick : ℕ) (marks : List ℕ) (lists : List (List Event)) (t : IsTurn (λ e. e.time) tick marks lists) (p : ℕ) (f : IsFirstMark marks tick p) where
  pub inside : p < length lists
  inside =
      let n = t.number in
      let at = f.at in
      omega arith

  stamp : (e : Event) → 0 < times event_same e (get_or lists p []) → e.time ≡ first_time (get_or lists p [])
  stamp e there = time_one (get_or lists p []) (λ d e' h k. one_key (λ e. e.time) tick marks lists t p d e' h k) e there

  -- its time is not after any event
  pub low : (e : Event) → 0 < times event_same e (together lists) → first_time (get_or lists p []) ≤ e.time
  low e there =
      first_before (get_or lists p []) e.time (λ z.
      let n = ap (times event_same e) (none_marked (λ e. e.time) tick marks lists t p f z) in
      omega arith) (λ d h. first_least (λ e. e.time) tick marks lists t p f d e h there)

  pub first_of_place : least_with None (get_or lists p []) ≡ slice_get (in_order event_before (together lists)) 0
  first_of_place = least_all (λ e. e.time) tick marks lists t p f before_time

  slot_time : (o : Option Event) → slice_get (in_order event_before (get_or lists p [])) 0 ≡ o → first_time (get_or lists p []) ≡ told o
  slot_time None h = ap first_time (nothing (get_or lists p []) (none_first (get_or lists p []) h))
  slot_time (Some m) h = sym (stamp m (least_is m (get_or lists p []) h).there)

  -- its time is that of the least of all
  pub time_of_place : first_time (get_or lists p []) ≡ first_time (in_order event_before (together lists))
  time_of_place =
      slot_time _ refl ∙ ap told (sym (first_all (λ e. e.time) tick marks lists t p f before_time _ refl)) ∙ sym (first_told (in_order event_before (together lists)))

  -- it is taken over
  pub begin_counts : (d : Event) → times event_same d (in_order event_before (get_or lists p []) ++ together (set lists p [])) ≡ times event_same d (together lists)
  begin_counts d =
      let a = times-append d (in_order event_before (get_or lists p [])) (together (set lists p [])) in
      let b = times-in_order event_before event_same event_law d (get_or lists p []) in
      let c = times-set p [] lists inside d in
      omega arith

  pub begin_order : in_order event_before (in_order event_before (get_or lists p []) ++ together (set lists p [])) ≡ in_order event_before (together lists)
  begin_order =
      in_order-times event_before event_same event_law (in_order event_before (get_or lists p []) ++ together (set lists p [])) (together lists) begin_counts

  pub begin_begun : (e : Event) → 0 < times event_same e (in_order event_before (get_or lists p [])) → e.time ≤ first_time (get_or lists p [])
  begin_begun e there =
      let n = times-in_order event_before event_same event_law e (get_or lists p []) in
      let s = stamp e (omega arith) in
      omega arith

  module _ (new : List ℕ) (unmark : mark_at new p ≡ 0) (others : (i : ℕ) → i < 1024 → i ≢ p → mark_at new i ≡ mark_at marks i) (some : 0 < length (get_or lists p [])) where
    emptied : IsTurn (λ e. e.time) tick new (set lists p [])
    emptied = turn_emptied (λ e. e.time) tick marks lists t p (place_within (λ e. e.time) tick marks lists t p f) new unmark others

    left_there : (e : Event) → 0 < times event_same e (together (set lists p [])) → 0 < times event_same e (together lists)
    left_there e there =
        let c = times-set p [] lists inside e in
        omega arith

    pub begin_after : (e : Event) → 0 < times event_same e (together (set lists p [])) → first_time (get_or lists p []) < e.time
    begin_after e there =
        let old = left_there e there in
        let high = low e old in
        elim (cases_lt (first_time (get_or lists p [])) e.time) [
          | inl l ↦ l
          | inr l ↦
              let d = some_event (get_or lists p []) some in
              let s = stamp d.0 d.1 in
              let at : e.time % 1024 ≡ p = ap (λ n. n % 1024) (let q : e.time ≡ d.0.time = omega arith in q) ∙ t.placed p d.0 d.1 in
              let own = in_slot (λ e. e.time) tick new (set lists p []) emptied e there in
              let at_it : 0 < times event_same e (get_or (set lists p []) p []) = subst (λ k. 0 < times event_same e (get_or (set lists p []) k [])) at own in
              let z = ap (times event_same e) (get_or-set_same lists p [] [] inside) in
              absurd (omega arith)
        ]

    pub begin_turn : IsTurn (λ e. e.time) (first_time (get_or lists p [])) new (set lists p [])
    begin_turn =
        turn_base (λ e. e.time) tick new (set lists p []) emptied (first_time (get_or lists p [])) (
        let d = some_event (get_or lists p []) some in
        let s = stamp d.0 d.1 in
        let l = t.after d.0 (out_slot (λ e. e.time) tick marks lists t p d.0 d.1) in
        omega arith
        ) begin_after

-- what the bucket had is at hand
pub taken_over : (lists : List (List Event)) → length lists ≡ 1024 → (p : ℕ) → p < 1024 → (bucket : List Event) → bucket ≡ get_or lists p bucket → (hand : List Event)
    → hand ≡ in_order event_before (get_or lists p bucket) → hand ≡ in_order event_before (get_or lists p [])
taken_over lists number p within bucket is hand h =
    h ∙ ap (in_order event_before) (sym is ∙ get_or_read lists p bucket (omega arith) is [])

-- the first bucket, as it is read
pub read_first : (a : Inside) → IsRing a → (p : ℕ) → IsFirstMark a.marks a.tick p → (bucket : List Event) → bucket ≡ get_or a.buckets.items p bucket → bucket ≡ get_or a.buckets.items p []
read_first a v p f bucket is = get_or_read a.buckets.items p bucket (inside a.tick a.marks a.buckets.items v.turn p f) is []

-- a ring b, whose hand is what the first bucket of a ring a had, some of it taken out
pub begun_ring : (a b : Inside) → IsRing a → (p : ℕ) → IsFirstMark a.marks a.tick p → 0 < length (get_or a.buckets.items p []) → b.hand ≡ in_order event_before (get_or a.buckets.items p [])
    → b.taken ≤ length b.hand → b.tick ≡ first_time (get_or a.buckets.items p []) → b.buckets.items ≡ set a.buckets.items p [] → mark_at b.marks p ≡ 0
    → ((i : ℕ) → i < 1024 → i ≢ p → mark_at b.marks i ≡ mark_at a.marks i) → IsRing b
begun_ring a b v p f some hand taken tick buckets unmark others = record {
  taken = taken;
  rising =
      rw hand (rising_left b.taken (in_order event_before (get_or a.buckets.items p [])) (rising-in_order event_before event_same event_law (get_or a.buckets.items p [])));
  begun =
      rw (hand, tick) (λ e there.
      begin_begun a.tick a.marks a.buckets.items v.turn p f e (times_left b.taken e (in_order event_before (get_or a.buckets.items p [])) there));
  turn = rw (buckets, tick) (begin_turn a.tick a.marks a.buckets.items v.turn p f b.marks unmark others some);
}

-- the tick at hand is over: the rest is in the buckets
pub later_ticks : (hand : List Event) (taken : ℕ) (lists : List (List Event)) (now : List Event) → length hand ≤ taken → in_order event_before (drop taken hand ++ together lists) ≡ now
    → in_order event_before (together lists) ≡ now
later_ticks hand taken lists now beyond h =
    ap (λ xs. in_order event_before (xs ++ together lists)) (sym (drop_all taken hand beyond)) ∙ h
