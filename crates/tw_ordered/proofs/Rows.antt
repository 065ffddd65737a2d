-- The place of an event among events that rise.
use Rattle.std.proofs.Common.{◌≡◌, ◌<◌, ◌≤◌, ◌-◌, ℕ, suc, zero, true, false, List, [], ◌∷◌, length, get_or, refl, ap, sym, ◌∙◌, subst, inl, inr, arith}
use Rattle.std.specs.List.{insert as put_at, remove}
use Rattle.std.specs.List.Sorted.{IsPartitionedBy}
use Rattle.std.proofs.lemmas.Bool.{cases_Bool, false≢true}
use Rattle.std.proofs.lemmas.List.{get_or_read}
use Rattle.tw_event.specs.declared.event.Event.{Event}
use Rattle.tw_event.specs.Order.{event_before, event_same}
use Rattle.tw_sim.specs.Ordered.{insert, take_out, times}
use Rattle.tw_sim.specs.Rising.{IsRising}
use Rattle.tw_sim.proofs.Counts.{none}
use Rattle.tw_sim.proofs.Ordered.{before_from, not_before, one_self, in_cons}
use Rattle.tw_ordered.specs.InOrder.{IsPlace}
use Rattle.tw_ordered.proofs.Ordered.{not_same}
use Rattle.tw_ordered.proofs.Events.{event_law, not_earlier}
use Rattle.tw_ordered.proofs.Lists.{times-take_out-le}
use Rattle.tw_ordered.specs.Times.{IsLastTime}

-- an element is counted
counted : (xs : List Event) (k : ℕ) (d : Event) → k < length xs → 0 < times event_same (get_or xs k d) xs
counted [] k d l = absurd (omega arith)
counted (x ∷ xs) zero d l = grind (arith, one_self, event_law)
counted (x ∷ xs) (suc k) d l = grind (arith, counted xs k d (omega arith))

-- a list that rises goes on rising without one event
pub rising-take_out : (e : Event) (xs : List Event) → IsRising event_before event_same xs → IsRising event_before event_same (take_out event_same e xs)
rising-take_out e [] r = tt
rising-take_out e (x ∷ xs) r =
    elim (cases_Bool (event_same e x)) [
      | inl b ↦ rw b r.1
      | inr b ↦ grind (arith, times-take_out-le, rising-take_out e xs r.1)
    ]

module _ (e : Event) where
  -- the events that come before e stand first
  pub parted : (xs : List Event) → IsRising event_before event_same xs → IsPartitionedBy (λ x. event_before x e) xs
  parted [] r i j d le l b = absurd (omega arith)
  parted (x ∷ xs) r zero zero d le l b = b
  parted (x ∷ xs) r zero (suc j) d le l b =
      before_from event_before event_same event_law (get_or xs j d) x e (r.0 (get_or xs j d) (counted xs j d (omega arith))) b
  parted (x ∷ xs) r (suc i) zero d le l b = absurd (omega arith)
  parted (x ∷ xs) r (suc i) (suc j) d le l b = parted xs r.1 i j d (omega arith) (omega arith) b

  -- e goes in at its place
  goes_in : (xs : List Event) (i : ℕ) → i ≤ length xs → ((k : ℕ) → k < i → event_before (get_or xs k e) e ≡ true)
      → (i < length xs → event_before (get_or xs i e) e ≡ false) → insert event_before e xs ≡ put_at xs i e
  goes_in [] zero l b r = refl
  goes_in [] (suc i) l b r = absurd (omega arith)
  goes_in (x ∷ xs) zero l b r = rw (r (omega arith)) refl
  goes_in (x ∷ xs) (suc i) l b r =
      rw (b 0 (omega arith)) (ap (λ ys. x ∷ ys) (goes_in xs i (omega arith) (λ k h. b (suc k) (omega arith)) (λ h. r (omega arith))))

  -- e comes out at its place
  comes_out : (xs : List Event) (i : ℕ) → i < length xs → ((k : ℕ) → k < i → event_before (get_or xs k e) e ≡ true)
      → event_same e (get_or xs i e) ≡ true → take_out event_same e xs ≡ remove xs i
  comes_out [] i l b s = absurd (omega arith)
  comes_out (x ∷ xs) zero l b s = rw s refl
  comes_out (x ∷ xs) (suc i) l b s =
      rw (not_same event_before event_same event_law x e (b 0 (omega arith)))
      (ap (λ ys. x ∷ ys) (comes_out xs i (omega arith) (λ k h. b (suc k) (omega arith)) s))

  stands : (xs : List Event) (i : ℕ) → i < length xs → event_same e (get_or xs i e) ≡ true → 0 < times event_same e xs
  stands [] i l s = absurd (omega arith)
  stands (x ∷ xs) zero l s = rw s (omega arith)
  stands (x ∷ xs) (suc i) l s = grind (arith, stands xs i (omega arith) s)

  -- e is not where it does not stand at its place
  is_not : (xs : List Event) (i : ℕ) → IsRising event_before event_same xs → ((k : ℕ) → k < i → event_before (get_or xs k e) e ≡ true)
      → (i < length xs → event_before (get_or xs i e) e ≡ false) → (i < length xs → event_same e (get_or xs i e) ≡ false) → times event_same e xs ≡ 0
  is_not [] i r b f n = refl
  is_not (x ∷ xs) zero r b f n =
      let z = none (times event_same e xs) (λ there.
      let x_is : x ≡ e = event_law.total x e (f (omega arith)) (r.0 e there) in
      false≢true (sym (n (omega arith)) ∙ subst (λ y. event_same e y ≡ true) (sym x_is) (event_law.same_self e))) in
      rw (n (omega arith)) (omega arith)
  is_not (x ∷ xs) (suc i) r b f n =
      let z = is_not xs i r.1 (λ k h. b (suc k) (omega arith)) (λ h. f (omega arith)) (λ h. n (omega arith)) in
      rw (not_same event_before event_same event_law x e (b 0 (omega arith))) (omega arith)

  -- where the first does not come before e, none does
  none_before : (x : Event) (xs : List Event) → IsRising event_before event_same (x ∷ xs) → event_before x e ≡ false
      → (k : ℕ) (d : Event) → k < length (x ∷ xs) → event_before (get_or (x ∷ xs) k d) e ≡ false
  none_before x xs r b zero d l = b
  none_before x xs r b (suc k) d l =
      not_before event_before event_same event_law (get_or xs k d) x e (r.0 (get_or xs k d) (counted xs k d (omega arith))) b

  pub place_first : (xs : List Event) → IsRising event_before event_same xs → (0 < length xs → event_before (get_or xs 0 e) e ≡ false) → IsPlace e xs 0
  place_first [] r b = grind arith
  place_first (x ∷ xs) r b = grind (arith, none_before)

  pub place_last : (xs : List Event) → IsRising event_before event_same xs → (n : ℕ) → n ≡ length xs → (last : Event) → last ≡ get_or xs (n - 1) last → event_before last e ≡ true → IsPlace e xs (length xs)
  place_last [] r n long last is b = grind arith
  place_last (x ∷ xs) r n long last is b = record {
    within = omega arith;
    before = λ k d l.
        let at = get_or_read (x ∷ xs) (n - 1) last (omega arith) is d in
        parted (x ∷ xs) r k (n - 1) d (omega arith) (omega arith) (subst (λ y. event_before y e ≡ true) at b);
    rest = λ k d l m. absurd (omega arith);
  }

  module _ (xs : List Event) (rising : IsRising event_before event_same xs) (i : ℕ) (place : IsPlace e xs i) where
    pub put_in : insert event_before e xs ≡ put_at xs i e
    put_in = goes_in xs i place.within (λ k l. place.before k e l) (λ l. place.rest i e (omega arith) l)

    pub out_of : i < length xs → event_same e (get_or xs i e) ≡ true → take_out event_same e xs ≡ remove xs i
    out_of l s = comes_out xs i l (λ k h. place.before k e h) s

    pub is_there : i < length xs → event_same e (get_or xs i e) ≡ true → 0 < times event_same e xs
    is_there l s = stands xs i l s

    pub is_absent : (i < length xs → event_same e (get_or xs i e) ≡ false) → times event_same e xs ≡ 0
    is_absent n = is_not xs i rising (λ k h. place.before k e h) (λ l. place.rest i e (omega arith) l) n

-- the last of a list that rises
pub last_of_rising : (xs : List Event) (n : ℕ) (e : Event) → IsRising event_before event_same xs → n ≡ length xs → 0 < n → e ≡ get_or xs (n - 1) e → IsLastTime xs e.time
last_of_rising [] n e h long some is = absurd (omega arith)
last_of_rising (x ∷ []) n e h long some is =
    let place : n - 1 ≡ 0 = omega arith in
    let x_is : e ≡ x = is ∙ ap (λ k. get_or (x ∷ []) k e) place in
    let own = one_self event_before event_same event_law x in
    let time = ap (λ y. y.time) x_is in
    record {
      bound = λ d there. grind arith;
      reached = (x, omega arith, sym time);
    }
last_of_rising (x ∷ y ∷ xs) n e h long some is =
    let place : n - 1 ≡ suc (n - 1 - 1) = omega arith in
    let r = last_of_rising (y ∷ xs) (n - 1) e h.1 (omega arith) (omega arith) (is ∙ ap (λ k. get_or (x ∷ y ∷ xs) k e) place) in
    let at = r.reached in
    let there = at.1 in
    let time = at.2 in
    record {
      bound = λ d there.
          elim (in_cons event_before event_same event_law d x (y ∷ xs) there) [
            | inl q ↦ grind (arith, not_earlier)
            | inr l ↦ r.bound d l
          ];
      reached = (at.0, omega arith, time);
    }
