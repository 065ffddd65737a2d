-- The events of a ring and of the rest together.
use Rattle.std.proofs.Common.{◌≡◌, ◌≤◌, ◌<◌, ◌+◌, ◌++◌, ◌⊎◌, ℕ, Bool, min, Option, Some, None, List, [], ◌∷◌}
use Rattle.std.proofs.Common.{length, drop, filter, option_map, slice_get, refl, ap, sym, ◌∙◌, subst, inl, inr, arith}
use Rattle.std.specs.List.Sorted.{IsPermutation, IsSorted}
use Rattle.std.proofs.lemmas.Bool.{cases_Bool}
use Rattle.std.proofs.lemmas.List.{length-append}
use Rattle.std.proofs.lemmas.List.Elements.{filter-append}
use Rattle.std.proofs.lemmas.Option.{none-some}
use Rattle.tw_event.specs.declared.event.Event.{Event}
use Rattle.tw_event.specs.Order.{event_before, event_same}
use Rattle.tw_event.proofs.Order.{before_time}
use Rattle.tw_event.specs.contracts.event.EventOrd.TheImpl as event_ord
use Rattle.tw_sim.specs.Ordered.{insert, take_out, times}
use Rattle.tw_sim.specs.Rising.{IsRising}
use Rattle.tw_sim.proofs.Ordered.{all-insert, one_self, times-insert}
use Rattle.tw_ordered.specs.InOrder.{earlier_of, in_order}
use Rattle.tw_ordered.specs.Queue.{AreFor, IsQueue}
use Rattle.tw_ordered.specs.Times.{first_time, never}
use Rattle.tw_ordered.proofs.Ordered.{all-take_out, cases_zero, in_order-times, length-in_order, times-take_out}
use Rattle.tw_ordered.proofs.Events.{event_law, filter-in_order, least_is, not_earlier, same_some, sorted_list, in_order_rising}
use Rattle.tw_ordered.proofs.Lists.{times-append}
use Rattle.tw_calendar.proofs.Merged.{all_both, all_rest, first_time_low, queue_of_events}
use Rattle.tw_ordered.proofs.Released.{no_length, no_first_nothing}
use Rattle.tw_ordered.proofs.Firsts.{both_least}
use Rattle.tw_calendar.proofs.Stacked.{order_less, order_more}

pub length-both : (xs ys : List Event) → length (in_order event_before (xs ++ ys)) ≡ length xs + length ys
length-both xs ys = length-in_order event_before event_same (xs ++ ys) ∙ length-append xs ys

-- none is there
pub none_pending : (xs ys now : List Event) → in_order event_before (xs ++ ys) ≡ now → length xs + length ys ≡ 0 → now ≡ []
none_pending xs ys now h z =
    let l = length-both xs ys in
    let n = ap (λ zs. length zs) h in
    no_length now (omega arith)

-- where the ring has none, the rest is all
pub rest_alone : (xs ys now : List Event) → xs ≡ [] → IsRising event_before event_same ys → in_order event_before (xs ++ ys) ≡ now → ys ≡ now
rest_alone xs ys now z r h = sym (in_order_rising ys r) ∙ ap (λ zs. in_order event_before (zs ++ ys)) (sym z) ∙ h

-- the first is there
pub first_there : (e : Event) (xs : List Event) → slice_get xs 0 ≡ Some e → 0 < times event_same e xs
first_there e [] h = absurd (none-some e h)
first_there e (x ∷ xs) h = grind (arith, one_self, event_law, same_some)

-- an event goes in, and the least time is kept
pub first_time-insert : (e : Event) (xs : List Event) → e.time ≤ never → min (first_time xs) e.time ≡ first_time (insert event_before e xs)
first_time-insert e [] l = omega arith
first_time-insert e (x ∷ xs) l =
    elim (cases_Bool (event_before x e)) [
      | inl b ↦
          let h = before_time x e b in
          rw b (omega arith)
      | inr b ↦ grind arith
    ]

-- where an event of another time is taken out, the least time stays
pub first_time-take_out : (e : Event) (xs : List Event) → (e.time ≡ first_time xs → ⊥) → first_time (take_out event_same e xs) ≡ first_time xs
first_time-take_out e [] h = refl
first_time-take_out e (x ∷ xs) h = grind arith

pub times-length : (e : Event) (xs : List Event) → times event_same e xs ≤ length xs
times-length e [] = omega arith
times-length e (x ∷ xs) =
    let h = times-length e xs in
    elim (cases_Bool (event_same e x)) [ inl b ↦ rw b (omega arith) | inr b ↦ rw b (omega arith) ]

-- the time of the first of two lists that rise
module _ (xs ys : List Event) (rx : IsRising event_before event_same xs) (ry : IsRising event_before event_same ys) where
  pub times_of_first : (m : Event) → slice_get (in_order event_before (xs ++ ys)) 0 ≡ Some m → (first_time xs ≤ m.time) ⊎ (first_time ys ≤ m.time)
  times_of_first m h =
      let l = least_is m (xs ++ ys) h in
      let n = times-append m xs ys in
      let there = l.there in
      elim (cases_zero (times event_same m xs)) [
        | inl z ↦ inr (first_time_low ys ry m (omega arith))
        | inr k ↦ inl (first_time_low xs rx m k)
      ]

  before_first : (zs : List Event) → ((z : Event) → 0 < times event_same z zs → 0 < times event_same z (xs ++ ys)) → (m : Event) → slice_get (in_order event_before (xs ++ ys)) 0 ≡ Some m → (m.time ≤ first_time zs) ⊎ (zs ≡ [])
  before_first [] h m k = inr refl
  before_first (z ∷ zs) h m k =
      let own = one_self event_before event_same event_law z in
      inl (not_earlier z m ((least_is m (xs ++ ys) k).first z (h z (omega arith))))

  -- it is not after the first of either list, each of which has a time up to the last tick
  pub not_after : first_time xs ≤ never → first_time ys ≤ never → (m : Event) → slice_get (in_order event_before (xs ++ ys)) 0 ≡ Some m
      → (m.time ≤ first_time xs) × (m.time ≤ first_time ys)
  not_after lx ly m h =
      let a = before_first xs (λ z there. let n = times-append z xs ys in omega arith) m h in
      let b = before_first ys (λ z there. let n = times-append z xs ys in omega arith) m h in
      let c = times_of_first m h in
      elim a [
        | inl p ↦ grind arith
        | inr p ↦
            elim b [
              | inl q ↦ (let k = ap first_time p in omega arith, q)
              | inr q ↦
                  let z = (least_is m (xs ++ ys) h).there in
                  let n = times-append m xs ys in
                  let i = ap (times event_same m) p in
                  let j = ap (times event_same m) q in
                  absurd (omega arith)
            ]
      ]

  -- its time is the lesser of their first times
  least_option : (n : ℕ) → n ≡ min (first_time xs) (first_time ys) → first_time xs ≤ never → first_time ys ≤ never → 0 < length xs + length ys → (o : Option Event)
      → slice_get (in_order event_before (xs ++ ys)) 0 ≡ o → Some n ≡ option_map (λ e. e.time) o
  least_option n h lx ly some None k =
      let z = ap length (no_first_nothing (in_order event_before (xs ++ ys)) k) in
      let l = length-both xs ys in
      absurd (omega arith)
  least_option n h lx ly some (Some m) k = grind (arith, not_after, times_of_first)

  pub least_told : (n : ℕ) → n ≡ min (first_time xs) (first_time ys) → first_time xs ≤ never → first_time ys ≤ never → 0 < length xs + length ys
      → Some n ≡ option_map (λ e. e.time) (slice_get (in_order event_before (xs ++ ys)) 0)
  least_told n h lx ly some = least_option n h lx ly some (slice_get (in_order event_before (xs ++ ys)) 0) refl

  -- the least of those that pass a test
  module _ (p : Event → Bool) where
    passed : (zs : List Event) → IsRising event_before event_same zs → filter p zs ≡ in_order event_before (filter p zs)
    passed zs r = ap (filter p) (sym (in_order_rising zs r)) ∙ filter-in_order p zs

    pub both_passed : (a b : Option Event) → a ≡ slice_get (filter p xs) 0 → b ≡ slice_get (filter p ys) 0 → earlier_of a b ≡ slice_get (filter p (in_order event_before (xs ++ ys))) 0
    both_passed a b h k = grind (arith, both_least, filter, slice_get, passed, filter-append, filter-in_order)

-- the rest has one more
pub right_more : (e : Event) (xs ys ws : List Event) → ws ≡ insert event_before e ys → in_order event_before (xs ++ ws) ≡ insert event_before e (in_order event_before (xs ++ ys))
right_more e xs ys ws h = grind (arith, order_more, times-insert)

-- the rest has one less, which was the least of all
pub right_less : (e : Event) (xs ys ws : List Event) → slice_get (in_order event_before (xs ++ ys)) 0 ≡ Some e → slice_get ys 0 ≡ Some e → ws ≡ take_out event_same e ys
    → in_order event_before (xs ++ ws) ≡ drop 1 (in_order event_before (xs ++ ys))
right_less e xs ys ws first there less =
    order_less e xs ys xs ws first (λ d.
    let m = ap (times event_same d) less in
    let n = times-take_out event_before event_same event_law d e ys (first_there e ys there) in
    omega arith)

-- what a ring has is for routers, also with one event more or less
pub homes_insert : (n : ℕ) (e : Event) (xs vs : List Event) → vs ≡ insert event_before e xs → e.dst < n → AreFor n xs → AreFor n vs
homes_insert n e xs vs h d k = subst (AreFor n) (sym h) (all-insert event_before (λ x. x.dst < n) e xs d k)

pub homes_take_out : (n m : ℕ) (e : Event) (xs vs : List Event) → vs ≡ take_out event_same e xs → m ≡ n → AreFor n xs → AreFor m vs
homes_take_out n m e xs vs h q k =
    subst (λ i. AreFor i vs) (sym q) (subst (AreFor n) (sym h) (all-take_out event_before event_same (λ x. x.dst < n) e xs k))

pub homes_skipped : (n m : ℕ) (xs vs : List Event) → (vs ≡ xs) ⊎ (vs ≡ drop 1 xs) → m ≡ n → AreFor n xs → AreFor m vs
homes_skipped n m xs vs h q k =
    subst (λ i. AreFor i vs) (sym q) (elim h [ inl s ↦ subst (AreFor n) (sym s) k | inr s ↦ subst (AreFor n) (sym s) (all_rest n xs k) ])

pub empty_skipped : (xs vs : List Event) → (vs ≡ xs) ⊎ (vs ≡ drop 1 xs) → xs ≡ [] → vs ≡ []
empty_skipped xs vs h z = elim h [ inl s ↦ s ∙ z | inr s ↦ s ∙ ap (drop 1) z ]

-- a ring and the rest are a queue
pub queue_of_both : (n room : ℕ) (xs ys : List Event) → AreFor n xs → AreFor n ys → IsQueue (record { routers = n; events = in_order event_before (xs ++ ys); room = room })
queue_of_both n room xs ys h k = queue_of_events n room (xs ++ ys) (all_both n xs ys h k)

-- the list of all, sorted
pub sorted_both : (xs ys all zs : List Event) → ((e : Event) → times event_same e all ≡ times event_same e xs + times event_same e ys) → IsPermutation all zs → IsSorted event_ord.ghosts.cmp zs
    → zs ≡ in_order event_before (xs ++ ys)
sorted_both xs ys all zs counts p s =
    sorted_list all zs p s ∙ in_order-times event_before event_same event_law all (xs ++ ys) (λ e.
    let a = times-append e xs ys in
    let b = counts e in
    omega arith)
