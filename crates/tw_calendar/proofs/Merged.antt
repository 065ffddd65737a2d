-- The events of a ring and of a heap together.
use Rattle.std.proofs.Common.{IfNone, IfSome, IsTrue, ◌≡◌, ◌<◌, ◌≤◌, ◌++◌, nat_lt, ℕ, Bool, true, false, Option, Some, None, List, [], ◌∷◌, drop, slice_get, refl, ap, sym, ◌∙◌, subst, inl, inr, arith}
use Rattle.std.specs.Bool.{OnFalse, OnTrue}
use Rattle.std.proofs.lemmas.Bool.{cases_Bool, false≢true, lt-ltb}
use Rattle.std.proofs.lemmas.Option.{none-some}
use Rattle.tw_event.specs.declared.event.Event.{Event}
use Rattle.tw_event.specs.Order.{event_before, event_same}
use Rattle.tw_sim.specs.Ordered.{insert, times}
use Rattle.tw_sim.specs.Rising.{IsRising}
use Rattle.tw_sim.proofs.Ordered.{all-insert, times-insert}
use Rattle.tw_ordered.specs.InOrder.{in_order}
use Rattle.tw_ordered.specs.Queue.{AreFor, IsQueue}
use Rattle.tw_ordered.specs.Times.{first_time, never}
use Rattle.tw_ordered.proofs.Ordered.{all-in_order, cases_zero, in_order-times, rising-in_order}
use Rattle.tw_ordered.proofs.Events.{IsLeast, before_by_time, event_law, first_is_least, first_of_least, least_is, none_first, not_before_first, not_earlier, same_some, in_order_rising, nothing}
use Rattle.tw_ordered.proofs.Lists.{times-append}
use Rattle.tw_ordered.proofs.Firsts.{append_none, least_left, least_right}
use Rattle.tw_ordered.proofs.Released.{no_first_nothing}

-- the first of a list that rises is its least
pub least_of_rising : (e : Event) (xs : List Event) → IsRising event_before event_same xs → slice_get xs 0 ≡ Some e → IsLeast e xs
least_of_rising e xs h k = first_is_least e xs xs h (λ x. refl) k

-- an event and the first of a ring, by their times
pub first_by_time : (top : Event) (ring : List Event) → (top.time ≡ first_time ring → ⊥) → IfSome (slice_get ring 0) (λ e. nat_lt top.time (first_time ring) ≡ event_before top e)
first_by_time top [] k = tt
first_by_time top (x ∷ xs) k = sym (before_by_time top x k)

pub none_by_time : (top : Event) (ring : List Event) → top.time ≤ never → (top.time ≡ first_time ring → ⊥) → IfNone (slice_get ring 0) (IsTrue (nat_lt top.time (first_time ring)))
none_by_time top [] l k = lt-ltb top.time never (omega arith)
none_by_time top (x ∷ xs) l k = tt

-- which of ring and heap has the least of all, where it is told whether the heap's least is before that of the ring
pub heap_told : (top : Event) (ring heap : List Event) → IsRising event_before event_same ring → slice_get (in_order event_before heap) 0 ≡ Some top
    → (told : Bool) → IfSome (slice_get ring 0) (λ e. told ≡ event_before top e) → OnTrue told (slice_get (in_order event_before (ring ++ heap)) 0 ≡ slice_get (in_order event_before heap) 0)
heap_told top ring heap rising least false h = tt
heap_told top [] heap rising least true h = refl
heap_told top (x ∷ xs) heap rising least true h =
    least_right x top (x ∷ xs) heap (least_of_rising x (x ∷ xs) rising refl) (least_is top heap least) (sym h) ∙ sym least

pub ring_told : (top : Event) (ring heap : List Event) → IsRising event_before event_same ring → slice_get (in_order event_before heap) 0 ≡ Some top
    → (told : Bool) → IfSome (slice_get ring 0) (λ e. told ≡ event_before top e) → IfNone (slice_get ring 0) (IsTrue told) → OnFalse told (slice_get (in_order event_before (ring ++ heap)) 0 ≡ slice_get ring 0)
ring_told top ring heap rising least true h k = tt
ring_told top [] heap rising least false h k = absurd (false≢true k)
ring_told top (x ∷ xs) heap rising least false h k =
    least_left x top (x ∷ xs) heap (least_of_rising x (x ∷ xs) rising refl) (least_is top heap least) (sym h)

-- without a heap
pub ring_alone : (ring heap : List Event) → heap ≡ [] → IsRising event_before event_same ring → slice_get (in_order event_before (ring ++ heap)) 0 ≡ slice_get ring 0
ring_alone ring heap h r =
    ap (λ xs. slice_get (in_order event_before (ring ++ xs)) 0) h ∙ ap (λ xs. slice_get (in_order event_before xs) 0) (append_none ring) ∙ ap (λ xs. slice_get xs 0) (in_order_rising ring r)

-- what goes in first comes out first
pub insert_taken : (x : Event) (xs : List Event) → slice_get (insert event_before x xs) 0 ≡ Some x → drop 1 (insert event_before x xs) ≡ xs
insert_taken x [] h = refl
insert_taken x (y ∷ ys) h =
    elim (cases_Bool (event_before y x)) [
      | inl b ↦
          let k : Some y ≡ Some x = rw b at h in
          let self : event_before x x ≡ true = subst (λ z. event_before z x ≡ true) (same_some y x k) b in
          absurd (false≢true (sym (event_law.not_self x) ∙ self))
      | inr b ↦ rw b refl
    ]

pub ring_taken : (ring heap : List Event) → slice_get (in_order event_before (ring ++ heap)) 0 ≡ slice_get ring 0 → in_order event_before (drop 1 ring ++ heap) ≡ drop 1 (in_order event_before (ring ++ heap))
unfolding in_order
ring_taken [] heap h =
    let z : heap ≡ [] = nothing heap (none_first heap h) in
    rw z refl
ring_taken (x ∷ xs) heap h = sym (insert_taken x (in_order event_before (xs ++ heap)) h)

-- one more event
pub ring_more : (e : Event) (ring more heap : List Event) → more ≡ insert event_before e ring → in_order event_before (more ++ heap) ≡ insert event_before e (in_order event_before (ring ++ heap))
unfolding in_order
ring_more e ring more heap h =
    in_order-times event_before event_same event_law (more ++ heap) (e ∷ ring ++ heap) (λ d.
    let a = times-append d more heap in
    let b = times-append d ring heap in
    let c = ap (times event_same d) h in
    let n = times-insert event_before event_same d e ring in
    omega arith)

-- routers
pub all_left : (n : ℕ) (xs ys : List Event) → AreFor n (xs ++ ys) → AreFor n xs
all_left n [] ys h = tt
all_left n (x ∷ xs) ys h = (h.0, all_left n xs ys h.1)

pub all_right : (n : ℕ) (xs ys : List Event) → AreFor n (xs ++ ys) → AreFor n ys
all_right n [] ys h = h
all_right n (x ∷ xs) ys h = all_right n xs ys h.1

pub all_both : (n : ℕ) (xs ys : List Event) → AreFor n xs → AreFor n ys → AreFor n (xs ++ ys)
all_both n [] ys h k = k
all_both n (x ∷ xs) ys h k = (h.0, all_both n xs ys h.1 k)

pub all_rest : (n : ℕ) (xs : List Event) → AreFor n xs → AreFor n (drop 1 xs)
all_rest n [] h = tt
all_rest n (x ∷ xs) h = h.1

pub homes_more : (n : ℕ) (e : Event) (ring more heap : List Event) → more ≡ insert event_before e ring → e.dst < n → AreFor n (ring ++ heap) → AreFor n (more ++ heap)
homes_more n e ring more heap h d k =
    all_both n more heap (subst (AreFor n) (sym h) (all-insert event_before (λ x. x.dst < n) e ring d (all_left n ring heap k))) (all_right n ring heap k)

first_is : (n : ℕ) (xs : List Event) (e : Event) → AreFor n xs → slice_get xs 0 ≡ Some e → e.dst < n
first_is n [] e h k = absurd (none-some e k)
first_is n (x ∷ xs) e h k = subst (λ d. d.dst < n) (same_some x e k) h.0

-- the first of events that are for routers
pub home_first : (n : ℕ) (xs : List Event) (e : Event) → AreFor n xs → slice_get (in_order event_before xs) 0 ≡ Some e → e.dst < n
home_first n xs e h k = first_is n (in_order event_before xs) e (all-in_order event_before event_same (λ d. d.dst < n) xs h) k

-- events in order make a queue
pub queue_of_events : (n room : ℕ) (events : List Event) → AreFor n events → IsQueue (record { routers = n; events = in_order event_before events; room = room })
queue_of_events n room events h = record {
  rising = rising-in_order event_before event_same event_law events;
  homes = all-in_order event_before event_same (λ e. e.dst < n) events h;
}

-- which of two lists in order has the least event
module _ (xs ys : List Event) (rx : IsRising event_before event_same xs) (ry : IsRising event_before event_same ys) where
  pub right_is_first : (x y : Event) → slice_get xs 0 ≡ Some x → slice_get ys 0 ≡ Some y → event_before y x ≡ true → slice_get (in_order event_before (xs ++ ys)) 0 ≡ Some y
  right_is_first x y h k b = least_right x y xs ys (least_of_rising x xs rx h) (least_of_rising y ys ry k) b

  pub left_is_first : (x y : Event) → slice_get xs 0 ≡ Some x → slice_get ys 0 ≡ Some y → event_before y x ≡ false → slice_get (in_order event_before (xs ++ ys)) 0 ≡ slice_get xs 0
  left_is_first x y h k b = least_left x y xs ys (least_of_rising x xs rx h) (least_of_rising y ys ry k) b ∙ sym h

  pub right_alone : slice_get xs 0 ≡ None → slice_get (in_order event_before (xs ++ ys)) 0 ≡ slice_get ys 0
  right_alone h = ap (λ zs. slice_get (in_order event_before (zs ++ ys)) 0) (no_first_nothing xs h) ∙ ap (λ zs. slice_get zs 0) (in_order_rising ys ry)

-- the first time of a list that rises is not after any
pub first_time_low : (xs : List Event) → IsRising event_before event_same xs → (e : Event) → 0 < times event_same e xs → first_time xs ≤ e.time
first_time_low [] r e there = absurd (omega arith)
first_time_low (x ∷ xs) r e there = not_earlier e x ((least_of_rising x (x ∷ xs) r refl).first e there)

-- a time that is not after the first event is not after the first time
pub low_told : (m : ℕ) (xs : List Event) → m ≤ never → IfSome (slice_get xs 0) (λ e. m ≤ e.time) → m ≤ first_time xs
low_told m [] l h = l
low_told m (x ∷ xs) l h = h

-- a ring whose first time is before all others
pub sooner_ring : (ring others : List Event) (n : ℕ) → IsRising event_before event_same ring → n ≤ never → first_time ring < n → ((e : Event) → 0 < times event_same e others → n ≤ e.time)
    → slice_get (in_order event_before (ring ++ others)) 0 ≡ slice_get ring 0
sooner_ring [] others n r m l h = absurd (omega arith)
sooner_ring (x ∷ xs) others n r m l h =
    let least = least_of_rising x (x ∷ xs) r refl in
    first_of_least x ((x ∷ xs) ++ others) (record {
      there =
          let c = times-append x (x ∷ xs) others in
          let o = least.there in
          omega arith;
      first = λ z there.
          let c = times-append z (x ∷ xs) others in
          elim (cases_zero (times event_same z (x ∷ xs))) [
            | inl q ↦
                let late = h z (omega arith) in
                not_before_first x z (omega arith) (λ k. absurd (omega arith))
            | inr o ↦ least.first z o
          ];
    })

-- a time that is before all events is before the first
pub soonest_told : (m : ℕ) (xs ys : List Event) → ((e : Event) → 0 < times event_same e xs → m ≤ e.time) → ((e : Event) → 0 < times event_same e ys → m ≤ e.time)
    → (o : Option Event) → slice_get (in_order event_before (xs ++ ys)) 0 ≡ o → IfSome o (λ e. m ≤ e.time)
soonest_told m xs ys h k None q = tt
soonest_told m xs ys h k (Some e) q =
    let there = (least_is e (xs ++ ys) q).there in
    let n = times-append e xs ys in
    elim (cases_zero (times event_same e xs)) [
      | inl z ↦ k e (omega arith)
      | inr o ↦ h e o
    ]

-- what is before a time that no event is before comes before the first
pub sooner_by_time : (top : Event) (xs : List Event) (n : ℕ) → top.time < n → IfSome (slice_get xs 0) (λ e. n ≤ e.time) → IfSome (slice_get xs 0) (λ e. true ≡ event_before top e)
sooner_by_time top [] n l h = tt
sooner_by_time top (x ∷ xs) n l h = sym (before_by_time top x (λ q. omega arith) ∙ lt-ltb top.time x.time (omega arith))

-- lists with the same first event have the same first time
pub first_time_of : (xs ys : List Event) → slice_get xs 0 ≡ slice_get ys 0 → first_time xs ≡ first_time ys
first_time_of [] [] h = refl
first_time_of [] (y ∷ ys) h = absurd (none-some y h)
first_time_of (x ∷ xs) [] h = absurd (none-some x (sym h))
first_time_of (x ∷ xs) (y ∷ ys) h = ap (λ e. e.time) (same_some x y h)
