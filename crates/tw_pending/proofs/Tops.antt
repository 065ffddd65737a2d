-- The first event of a tick or of a heap, where it is due, is the first of all.
use Rattle.std.proofs.Common.{◌≡◌, ℕ, ◌+◌, ◌<◌, ◌≤◌, Bool, true, false, None, List, [], ◌∷◌, ◌++◌, Some, drop, get_or, length, slice_get, refl, ap, sym, ◌∙◌, subst, inl, inr, arith}
use Rattle.std.specs.Cmp.{IsTotalOrder}
use Rattle.std.specs.Bool.{OnFalse, OnTrue}
use Rattle.std.specs.List.{AllByRecursion}
use Rattle.std.specs.List.Sorted.{IsPermutation}
use Rattle.std.specs.Ordering.{is_lt}
use Rattle.std.specs.declared.cmp.Ordering.{Ordering}
use Rattle.std.specs.declared.cmp.Ordering.TheVariants.{Equal, Greater, Less}
use Rattle.std.specs.declared.cmp.Reverse.{Reverse}
use Rattle.std.proofs.lemmas.Bool.{cases_Bool, cases_eq}
use Rattle.tw_sim.proofs.Ordered.{counted_is, in_cons, not_back, not_before}
use Rattle.tw_pending.specs.Order.{AreWith, IsInOrder, count, in_order, is_before, is_same}
use Rattle.tw_pending.specs.Ring.{IsDue, IsRing, all_in, all_of, events_of, waiting_in}
use Rattle.tw_pending.proofs.All.{count-append}
use Rattle.tw_pending.proofs.Counts.{first_is, law, own, popped, without_first, without_none}
use Rattle.tw_pending.proofs.Days.{all_later, nil, some_of}

lt_less : (o : Ordering) → is_lt o ≡ true → o ≡ Less
lt_less Less h = refl
lt_less Equal h = cc
lt_less Greater h = cc

-- the top of a heap, among its events
pub top_at : {E : Type 0} (x : Reverse E) (items : List (Reverse E)) → 0 < length items → x ≡ get_or items 0 x → slice_get (events_of items) 0 ≡ Some x.0
top_at x [] some at = absurd (omega arith)
top_at x (y ∷ ys) some at = let is : x ≡ y = at in ap (λ z. Some z.0) (sym is)

-- where nothing stands first, nothing is there
no_first : {E : Type 0} (xs : List E) → None ≡ slice_get xs 0 → xs ≡ []
no_first [] h = refl
no_first (x ∷ xs) h = absurd (cc)

no_events : {E : Type 0} (items : List (Reverse E)) → length items ≡ 0 → events_of items ≡ []
no_events [] h = refl
no_events (x ∷ xs) h = absurd (omega arith)

-- what holds of a tick holds of the rest of it
pub begun_rest : {E : Type 0} (P : E → Type 0) (tick left : List E) → left ≡ drop 1 tick → AllByRecursion P tick → AllByRecursion P left
begun_rest P [] left is h = subst (AllByRecursion P) (sym is) tt
begun_rest P (x ∷ xs) left is h = subst (AllByRecursion P) (sym is) h.1

module _ {E : Type 0} (cmp : E → E → Ordering) (order : IsTotalOrder cmp) (exact : (d e : E) → cmp d e ≡ Equal → d ≡ e) where
  -- no event of a heap is before its top
  no_sooner : (x : Reverse E) (ys : List (Reverse E)) → AllByRecursion (λ y. is_lt (cmp y.0 x.0) ≡ false) ys → AllByRecursion (λ e. is_before cmp e x.0 ≡ false) (events_of ys)
  no_sooner x [] h = tt
  no_sooner x (y ∷ ys) h = (h.0, no_sooner x ys h.1)

  pub top_least : (x : Reverse E) (items : List (Reverse E)) → AllByRecursion (λ y. is_lt (cmp y.0 x.0) ≡ false) items
      → (e : E) → 0 < count cmp e (events_of items) → is_before cmp e x.0 ≡ false
  top_least x items top e there = counted_is (is_before cmp) (is_same cmp) (law cmp order exact) (λ d. is_before cmp d x.0 ≡ false) e (events_of items) (no_sooner x items top) there

  -- and none of a tick before its first
  pub first_least : (tick : List E) (x : E) → IsInOrder cmp tick → slice_get tick 0 ≡ Some x → (e : E) → 0 < count cmp e tick → is_before cmp e x ≡ false
  first_least [] x rising first e there = absurd (omega arith)
  first_least (y ∷ ys) x rising first e there =
      let is : y ≡ x = cc in
      subst (λ z. is_before cmp e z ≡ false) is (elim (in_cons (is_before cmp) (is_same cmp) (law cmp order exact) e y ys there) [
        | inl same ↦ subst (λ z. is_before cmp z y ≡ false) (sym same) ((law cmp order exact).not_self y)
        | inr k ↦ rising.0 e k
      ])

  -- what stands first is counted
  pub first_counted : (xs : List E) (x : E) → slice_get xs 0 ≡ Some x → 0 < count cmp x xs
  first_counted [] x first = absurd (cc)
  first_counted (y ∷ ys) x first = let is : y ≡ x = cc in subst (λ z. 0 < count cmp z (y ∷ ys)) is (let o = own cmp order exact y in omega arith)

  -- none of some events is before x where none is before y, and y is not before x
  pub least_of : (y x : E) (xs : List E) → ((e : E) → 0 < count cmp e xs → is_before cmp e y ≡ false) → is_before cmp y x ≡ false
      → (e : E) → 0 < count cmp e xs → is_before cmp e x ≡ false
  least_of y x xs least not e there = not_before (is_before cmp) (is_same cmp) (law cmp order exact) e y x (least e there) not

  pub not_after : (x y : E) → is_before cmp x y ≡ true → is_before cmp y x ≡ false
  not_after x y h = not_back (is_before cmp) (is_same cmp) (law cmp order exact) x y h

  -- an event of the tick, or the heap's top, is no later than today
  pub due_tick : (time : E → ℕ) (today : ℕ) (tick : List E) (items : List (Reverse E)) → AllByRecursion (λ e. time e ≤ today) tick → 0 < length tick
      → (e : E) × (0 < count cmp e (tick ++ events_of items)) × (time e ≤ today)
  due_tick time today [] items begun some = absurd (omega arith)
  due_tick time today (x ∷ xs) items begun some = (x, (let o = own cmp order exact x in omega arith), begun.0)

  pub due_heap : (time : E → ℕ) (today : ℕ) (tick : List E) (items : List (Reverse E)) (x : Reverse E) → 0 < length items → x ≡ get_or items 0 x → time x.0 ≤ today
      → (e : E) × (0 < count cmp e (tick ++ events_of items)) × (time e ≤ today)
  due_heap time today tick items x some at soon =
      (x.0, (let c = first_counted (events_of items) x.0 (top_at x items some at) in let s = count-append cmp x.0 tick (events_of items) in omega arith), soon)

  -- the first of all comes out of the tick
  pub skipped_first : (tick : List E) (items : List (Reverse E)) (days : List (List E)) → slice_get (all_in cmp tick items days) 0 ≡ slice_get tick 0
      → all_in cmp (drop 1 tick) items days ≡ drop 1 (all_in cmp tick items days)
  skipped_first [] items days first = without_none (all_in cmp [] items days) first
  skipped_first (x ∷ xs) items days first = without_first cmp order exact (x ∷ xs ++ waiting_in items days) (xs ++ waiting_in items days) x first (λ e. omega arith)

  -- or out of the heap
  pub popped_all : (tick : List E) (items left : List (Reverse E)) (days : List (List E)) (x : E) → AreWith cmp (x ∷ []) (events_of left) (events_of items)
      → AreWith cmp (x ∷ []) (tick ++ waiting_in left days) (tick ++ waiting_in items days)
  popped_all tick items left days x h = λ e.
      let a = h e in
      let b = count-append cmp e tick (waiting_in left days) in
      let c = count-append cmp e tick (waiting_in items days) in
      let d = count-append cmp e (events_of left) (all_of days) in
      let f = count-append cmp e (events_of items) (all_of days) in
      omega arith

  -- what is with the events of a heap is with all, where nothing else waits
  pub among_all : (more : List E) (items left : List (Reverse E)) → AreWith cmp more (events_of items) (events_of left) → AreWith cmp more (waiting_in items []) (waiting_in left [])
  among_all more items left h = λ e.
      let a = h e in
      let b = count-append cmp e (events_of items) [] in
      let c = count-append cmp e (events_of left) [] in
      omega arith

  -- the top of a heap is the first of all, where nothing else waits
  pub first_of_heap : (x : Reverse E) (items : List (Reverse E)) → 0 < length items → x ≡ get_or items 0 x → AllByRecursion (λ y. is_lt (cmp y.0 x.0) ≡ false) items
      → slice_get (all_in cmp [] items []) 0 ≡ Some x.0
  first_of_heap x items some at top =
      let sum = λ (e : E). count-append cmp e (events_of items) [] in
      first_is cmp order exact (waiting_in items []) x.0 (let s = sum x.0 in let c = first_counted (events_of items) x.0 (top_at x items some at) in omega arith)
      (λ e there. top_least x items top e (let s = sum e in omega arith))

  -- and so is what is taken out of a heap
  pub first_popped : (x : Reverse E) (items left : List (Reverse E)) → IsPermutation items (x ∷ left) → AllByRecursion (λ y. is_lt (cmp y.0 x.0) ≡ false) left
      → slice_get (all_in cmp [] items []) 0 ≡ Some x.0
  first_popped x items left permuted top =
      let gone = popped cmp x items left permuted in
      let sum = λ (e : E). count-append cmp e (events_of items) [] in
      first_is cmp order exact (waiting_in items []) x.0 (let s = sum x.0 in let g = gone x.0 in let o = own cmp order exact x.0 in omega arith)
      (λ e there. elim (in_cons (is_before cmp) (is_same cmp) (law cmp order exact) e x.0 (events_of left) (let s = sum e in let g = gone e in omega arith)) [
        | inl same ↦ subst (λ z. is_before cmp z x.0 ≡ false) (sym same) ((law cmp order exact).not_self x.0)
        | inr k ↦ top_least x left top e k
      ])

  module _ (time : E → ℕ) (timely : (d e : E) → cmp d e ≡ Less → time d ≤ time e) (today waiting : ℕ) (tick : List E) (items : List (Reverse E)) (days : List (List E))
      (ring : IsRing time today waiting days) (due : IsDue time today cmp waiting (tick ++ events_of items)) where
    -- an event that is not before x is no earlier
    no_later : (x d : E) → is_before cmp d x ≡ false → time x ≤ time d
    no_later x d h =
        elim (cases_Bool (is_before cmp x d)) [
          | inl b ↦ timely x d (lt_less (cmp x d) b)
          | inr b ↦ (let is = ap time ((law cmp order exact).total x d b h) in omega arith)
        ]

    -- what is later is not before
    not_sooner : (x e : E) → time x < time e → is_before cmp e x ≡ false
    not_sooner x e later = elim (cases_Bool (is_before cmp e x)) [ inl b ↦ absurd (let k = timely e x (lt_less (cmp e x) b) in omega arith) | inr b ↦ b ]

    -- the least of the tick and the heap is the first of all
    front : (x : E) → 0 < count cmp x (tick ++ events_of items) → ((e : E) → 0 < count cmp e (tick ++ events_of items) → is_before cmp e x ≡ false)
        → slice_get (all_in cmp tick items days) 0 ≡ Some x
    front x there least =
        first_is cmp order exact (tick ++ waiting_in items days) x (let s = sum x in omega arith) (λ e here.
        elim (cases_eq (count cmp e (tick ++ events_of items)) 0) [
          | inl idle ↦ not_sooner x e (in_days e (let s = sum e in omega arith))
          | inr some ↦ least e (some_of _ some)
        ])
      where
        sum : (e : E) → count cmp e (tick ++ waiting_in items days) ≡ count cmp e (tick ++ events_of items) + count cmp e (all_of days)
        sum e =
            let a = count-append cmp e tick (waiting_in items days) in
            let b = count-append cmp e (events_of items) (all_of days) in
            let c = count-append cmp e tick (events_of items) in
            omega arith

        in_days : (e : E) → 0 < count cmp e (all_of days) → time x < time e
        in_days e some =
            let later = counted_is (is_before cmp) (is_same cmp) (law cmp order exact) (λ y. today < time y) e (all_of days) (all_later time today 0 days ring.are) some in
            elim due [
              | inl none ↦ absurd (let empty = ap (count cmp e) (nil (all_of days) (ring.count ∙ none)) in omega arith)
              | inr soon ↦ (let early = no_later x soon.0 (least soon.0 soon.1) in let now = soon.2 in omega arith)
            ]

    pub tick_first : (x : E) → IsInOrder cmp tick → slice_get tick 0 ≡ Some x → ((e : E) → 0 < count cmp e (events_of items) → is_before cmp e x ≡ false)
        → slice_get (all_in cmp tick items days) 0 ≡ Some x
    tick_first x rising first heap =
        front x (let s = count-append cmp x tick (events_of items) in let c = first_counted tick x first in omega arith) (λ e there.
        elim (cases_eq (count cmp e tick) 0) [
          | inl idle ↦ heap e (let s = count-append cmp e tick (events_of items) in omega arith)
          | inr some ↦ first_least tick x rising first e (some_of _ some)
        ])

    pub heap_first : (x : E) → slice_get (events_of items) 0 ≡ Some x → ((e : E) → 0 < count cmp e (events_of items) → is_before cmp e x ≡ false)
        → ((e : E) → 0 < count cmp e tick → is_before cmp e x ≡ false) → slice_get (all_in cmp tick items days) 0 ≡ Some x
    heap_first x first least earlier =
        front x (let s = count-append cmp x tick (events_of items) in let c = first_counted (events_of items) x first in omega arith) (λ e there.
        elim (cases_eq (count cmp e tick) 0) [
          | inl idle ↦ least e (let s = count-append cmp e tick (events_of items) in omega arith)
          | inr some ↦ earlier e (some_of _ some)
        ])

    -- where nothing stands in the tick and the heap, nothing waits
    pub nothing_first : tick ≡ [] → length items ≡ 0 → slice_get (all_in cmp tick items days) 0 ≡ None
    nothing_first over empty =
        elim due [
          | inl none ↦
              ap (λ t. slice_get (all_in cmp t items days) 0) over ∙ ap (λ xs. slice_get (in_order cmp (xs ++ all_of days)) 0) (no_events items empty)
              ∙ ap (λ xs. slice_get (in_order cmp xs) 0) (nil (all_of days) (ring.count ∙ none))
          | inr soon ↦ absurd (
              let there = soon.1 in
              let none = ap (λ t. count cmp soon.0 (t ++ events_of items)) over ∙ ap (count cmp soon.0) (no_events items empty) in
              omega arith)
        ]

    -- where nothing stands in the heap, the first of the tick is the first of all
    pub tick_alone : IsInOrder cmp tick → length items ≡ 0 → slice_get (all_in cmp tick items days) 0 ≡ slice_get tick 0
    tick_alone rising empty = of tick refl
      where
        of : (xs : List E) → tick ≡ xs → slice_get (all_in cmp tick items days) 0 ≡ slice_get xs 0
        of [] is = nothing_first is empty
        of (x ∷ xs) is =
            tick_first x rising (ap (λ t. slice_get t 0) is) (λ e there.
            absurd (let none = ap (count cmp e) (no_events items empty) in omega arith))

    module _ (x : Reverse E) (some : 0 < length items) (at : x ≡ get_or items 0 x) (top : AllByRecursion (λ y. is_lt (cmp y.0 x.0) ≡ false) items) where
      -- and where nothing stands in the tick, that of the heap
      pub heap_alone : None ≡ slice_get tick 0 → slice_get (all_in cmp tick items days) 0 ≡ slice_get (events_of items) 0
      heap_alone none =
          heap_first x.0 (top_at x items some at) (top_least x items top) (λ e there. absurd (let empty = ap (count cmp e) (no_first tick none) in omega arith))
          ∙ sym (top_at x items some at)

      -- else the one that comes before the other
      module _ (y : E) (rising : IsInOrder cmp tick) (first : Some y ≡ slice_get tick 0) where
        pub sooner_heap : (told : Bool) → told ≡ is_before cmp x.0 y → OnTrue told (slice_get (all_in cmp tick items days) 0 ≡ slice_get (events_of items) 0)
        sooner_heap true h =
            heap_first x.0 (top_at x items some at) (top_least x items top) (least_of y x.0 tick (first_least tick y rising (sym first)) (not_after x.0 y (sym h)))
            ∙ sym (top_at x items some at)
        sooner_heap false h = tt

        pub sooner_tick : (told : Bool) → told ≡ is_before cmp x.0 y → OnFalse told (slice_get (all_in cmp tick items days) 0 ≡ slice_get tick 0)
        sooner_tick true h = tt
        sooner_tick false h = tick_first y rising (sym first) (least_of x.0 y (events_of items) (top_least x items top) (sym h)) ∙ first
