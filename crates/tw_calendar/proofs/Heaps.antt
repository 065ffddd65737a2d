-- What a heap of events holds, and the events of a ring beside it.
use Rattle.std.proofs.Common.{◌≡◌, ℕ, ◌<◌, false}
use Rattle.std.proofs.Common.{Some, List, [], ◌∷◌, length, slice_get, get_or, drop, refl, ap, sym, ◌∙◌, subst, arith}
use Rattle.std.specs.BinaryHeap.{IsUpperBound}
use Rattle.std.specs.List.{AllByRecursion}
use Rattle.std.specs.List.Sorted.{IsPermutation}
use Rattle.std.specs.Ordering.{is_lt}
use Rattle.std.specs.declared.cmp.Reverse.{Reverse}
use Rattle.std.specs.declared.cmp.Ordering.{Ordering}
use Rattle.std.proofs.lemmas.List.Sorted.{IsPermutation-map}
use Rattle.tw_event.specs.declared.event.Event.{Event}
use Rattle.tw_event.specs.Order.{event_before, event_same}
use Rattle.tw_event.specs.contracts.event.EventOrd.TheImpl as event_ord
use Rattle.tw_event.proofs.Order.{event_order}
use Rattle.tw_sim.specs.Ordered.{insert, times}
use Rattle.tw_calendar.specs.Heap.{heap_events}
use Rattle.tw_ordered.specs.InOrder.{in_order}
use Rattle.tw_ordered.specs.Queue.{AreFor}
use Rattle.tw_ordered.proofs.Ordered.{times-in_order, all-permutation, in_order_least, in_order-permutation, in_order-times}
use Rattle.std.proofs.Common.{◌++◌, Some, List, [], ◌∷◌, length, drop, slice_get, refl, ap, sym, ◌∙◌, subst, arith}
use Rattle.tw_ordered.proofs.Events.{event_law}
use Rattle.tw_ordered.proofs.Lists.{times-append}
use Rattle.tw_calendar.proofs.Merged.{all_both, all_left, all_right, insert_taken}

-- the heap's order: the least event is the greatest item
abbrev pub later : Reverse Event → Reverse Event → Ordering
later x y = event_ord.ghosts.cmp y.0 x.0

least_of : (x : Reverse Event) (xs : List (Reverse Event)) → IsUpperBound later x xs → AllByRecursion (λ e. event_before e x.0 ≡ false) (heap_events xs)
least_of x [] h = tt
least_of x (y ∷ ys) h = (sym (ap is_lt (event_order y.0 x.0)) ∙ h.0, least_of x ys h.1)

-- the least event comes out
pub in_order_popped : (x : Reverse Event) (xs ys : List (Reverse Event)) → IsPermutation xs (x ∷ ys) → IsUpperBound later x ys
    → in_order event_before (heap_events xs) ≡ x.0 ∷ in_order event_before (heap_events ys)
in_order_popped x xs ys p h =
    sym (in_order-permutation event_before event_same event_law (heap_events xs) (heap_events (x ∷ ys)) (IsPermutation-map (λ r. r.0) xs (x ∷ ys) p))
    ∙ in_order_least event_before event_same x.0 (heap_events ys) (least_of x ys h)

-- the least event is the first in order
pub first_in_order : (x : Reverse Event) (xs : List (Reverse Event)) → IsUpperBound later x (x ∷ xs) → slice_get (in_order event_before (heap_events (x ∷ xs))) 0 ≡ Some x.0
first_in_order x xs h =
    ap (λ r. slice_get r 0) (in_order_least event_before event_same x.0 (heap_events xs) (least_of x xs h.1))

pub homes_pushed : (n : ℕ) (x : Reverse Event) (xs ys : List (Reverse Event)) → IsPermutation (x ∷ xs) ys → x.0.dst < n → AreFor n (heap_events xs) → AreFor n (heap_events ys)
homes_pushed n x xs ys p d h =
    all-permutation event_before event_same event_law (λ e. e.dst < n) (heap_events (x ∷ xs)) (heap_events ys) (IsPermutation-map (λ r. r.0) (x ∷ xs) ys p) (d, h)

pub homes_popped : (n : ℕ) (x : Reverse Event) (xs ys : List (Reverse Event)) → IsPermutation xs (x ∷ ys) → AreFor n (heap_events xs) → (x.0.dst < n) × AreFor n (heap_events ys)
homes_popped n x xs ys p h =
    all-permutation event_before event_same event_law (λ e. e.dst < n) (heap_events xs) (heap_events (x ∷ ys)) (IsPermutation-map (λ r. r.0) xs (x ∷ ys) p) h

-- an empty heap
pub no_events : (items : List (Reverse Event)) → length items ≡ 0 → in_order event_before (heap_events items) ≡ []
unfolding in_order
no_events [] h = refl
no_events (x ∷ xs) h = absurd (omega arith)

-- the heap's top
pub first_of_heap : (x : Reverse Event) (items : List (Reverse Event)) → 0 < length items → x ≡ get_or items 0 x → IsUpperBound later x items
    → slice_get (in_order event_before (heap_events items)) 0 ≡ Some x.0
first_of_heap x [] l e h = absurd (omega arith)
first_of_heap x (y ∷ ys) l e h =
    subst (λ z. slice_get (in_order event_before (heap_events (z ∷ ys))) 0 ≡ Some x.0) e (first_in_order x ys (subst (λ z. IsUpperBound later x (z ∷ ys)) (sym e) h))

-- what comes off the heap
pub first_popped : (x : Reverse Event) (xs ys : List (Reverse Event)) → IsPermutation xs (x ∷ ys) → IsUpperBound later x ys → slice_get (in_order event_before (heap_events xs)) 0 ≡ Some x.0
first_popped x xs ys p h = ap (λ r. slice_get r 0) (in_order_popped x xs ys p h)

pub times_permuted : (e : Event) (xs ys : List Event) → IsPermutation xs ys → times event_same e ys ≡ times event_same e xs
times_permuted e xs ys p =
    sym (times-in_order event_before event_same event_law e ys) ∙ ap (times event_same e) (in_order-permutation event_before event_same event_law xs ys p)
    ∙ times-in_order event_before event_same event_law e xs

pub heap_more : (ring : List Event) (x : Reverse Event) (xs ys : List (Reverse Event)) → IsPermutation (x ∷ xs) ys
    → in_order event_before (ring ++ heap_events ys) ≡ insert event_before x.0 (in_order event_before (ring ++ heap_events xs))
unfolding in_order
heap_more ring x xs ys p =
    in_order-times event_before event_same event_law (ring ++ heap_events ys) (x.0 ∷ ring ++ heap_events xs) (λ d.
    let a = times-append d ring (heap_events ys) in
    let b = times-append d ring (heap_events xs) in
    let n = times_permuted d (heap_events (x ∷ xs)) (heap_events ys) (IsPermutation-map (λ r. r.0) (x ∷ xs) ys p) in
    omega arith)

-- the heap's least comes out
module _ (ring : List Event) (x : Reverse Event) (xs ys : List (Reverse Event)) (p : IsPermutation xs (x ∷ ys)) (top : IsUpperBound later x ys)
    (first : slice_get (in_order event_before (ring ++ heap_events xs)) 0 ≡ slice_get (in_order event_before (heap_events xs)) 0) where
  pub heap_first : slice_get (in_order event_before (ring ++ heap_events xs)) 0 ≡ Some x.0
  heap_first = first ∙ first_popped x xs ys p top

  pub heap_taken : in_order event_before (ring ++ heap_events ys) ≡ drop 1 (in_order event_before (ring ++ heap_events xs))
  unfolding in_order
  heap_taken =
      let whole : in_order event_before (ring ++ heap_events xs) ≡ insert event_before x.0 (in_order event_before (ring ++ heap_events ys)) =
      in_order-times event_before event_same event_law (ring ++ heap_events xs) (x.0 ∷ ring ++ heap_events ys) (λ d.
      let a = times-append d ring (heap_events xs) in
      let b = times-append d ring (heap_events ys) in
      let n = times_permuted d (heap_events xs) (heap_events (x ∷ ys)) (IsPermutation-map (λ r. r.0) xs (x ∷ ys) p) in
      omega arith) in
      sym (insert_taken x.0 (in_order event_before (ring ++ heap_events ys)) (ap (λ r. slice_get r 0) (sym whole) ∙ heap_first)) ∙ ap (drop 1) (sym whole)

pub homes_heap_more : (n : ℕ) (ring : List Event) (x : Reverse Event) (xs ys : List (Reverse Event)) → IsPermutation (x ∷ xs) ys → x.0.dst < n → AreFor n (ring ++ heap_events xs) → AreFor n (ring ++ heap_events ys)
homes_heap_more n ring x xs ys p d k =
    all_both n ring (heap_events ys) (all_left n ring (heap_events xs) k) (homes_pushed n x xs ys p d (all_right n ring (heap_events xs) k))

pub homes_heap_less : (n : ℕ) (ring : List Event) (x : Reverse Event) (xs ys : List (Reverse Event)) → IsPermutation xs (x ∷ ys) → AreFor n (ring ++ heap_events xs) → (x.0.dst < n) × AreFor n (ring ++ heap_events ys)
homes_heap_less n ring x xs ys p k =
    let h = homes_popped n x xs ys p (all_right n ring (heap_events xs) k) in
    (h.0, all_both n ring (heap_events ys) (all_left n ring (heap_events xs) k) h.1)

pub empty_heap : (items : List (Reverse Event)) → length items ≡ 0 → heap_events items ≡ []
empty_heap [] h = refl
empty_heap (x ∷ xs) h = absurd (omega arith)
