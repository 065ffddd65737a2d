-- The least time of events that are in order.
use Rattle.std.proofs.Common.{◌≡◌, ℕ, ◌≤◌, ◌==◌, List, [], ◌∷◌, ◌++◌, filter, fold, map, min, option_map, refl, ap, sym, ◌∙◌, inl, inr, arith, Option, Some, None, slice_get}
use Rattle.std.specs.List.{AllByRecursion, reduce}
use Rattle.std.proofs.lemmas.Bool.{cases_Bool}
use Rattle.std.proofs.lemmas.List.{append-nil, map-append}
use Rattle.std.proofs.lemmas.List.Sums.{fold-append}
use Rattle.tw_event.specs.declared.event.Event.{Event}
use Rattle.tw_event.specs.Order.{event_before, event_same}
use Rattle.tw_model.specs.Case.{Case, IsCase, simulation}
use Rattle.tw_model.proofs.Lawful.{lawful}
use Rattle.tw_sim.specs.Rising.{IsRising}
use Rattle.tw_sim.proofs.Counts.{is_order}
use Rattle.tw_sim.proofs.Ordered.{all_counted}
use Rattle.tw_shard.proofs.Releasing.{rising_part}

-- ---- of two lists of times

fold_both : (t u : ℕ) (times : List ℕ) → fold min (min t u) times ≡ min t (fold min u times)
fold_both t u [] = refl
fold_both t u (n ∷ times) =
    let same : min (min t u) n ≡ min t (min u n) = omega arith in
    ap (λ k. fold min k times) same ∙ fold_both t (min u n) times

-- the least of all is the lesser of the least ones
pub least_of_both : (t u : ℕ) (times others : List ℕ) → Some t ≡ reduce min times → Some u ≡ reduce min others
    → ◌≡◌ {A = Option ℕ} (Some (min t u)) (reduce min (times ++ others))
least_of_both t u [] others first second = absurd (cc first)
least_of_both t u (n ∷ times) [] first second = absurd (cc second)
least_of_both t u (n ∷ times) (k ∷ others) first second =
    let one : t ≡ fold min n times = cc first in
    let two : u ≡ fold min k others = cc second in
    ap (λ x. Some x)
    ((λ i. min (one i) (two i))
    ∙ (sym (fold_both (fold min n times) k others) ∙ sym (fold-append min n times (k ∷ others))))

-- where there is none of the others
pub least_of_first : (time : Option ℕ) (times others : List ℕ) → time ≡ reduce min times → None ≡ reduce min others → time ≡ reduce min (times ++ others)
least_of_first time times [] first none = first ∙ ap (reduce min) (sym (append-nil times))
least_of_first time times (k ∷ others) first none = absurd (cc none)

-- and where there is none of these
pub least_of_second : (other : Option ℕ) (times others : List ℕ) → None ≡ reduce min times → other ≡ reduce min others → other ≡ reduce min (times ++ others)
least_of_second other [] others none second = second
least_of_second other (n ∷ times) others none second = absurd (cc none)

-- ---- of events

-- a time that none of the others is less than
least_stays : (t : ℕ) (events : List Event) → AllByRecursion (λ e. t ≤ e.time) events → fold min t (map (λ e. e.time) events) ≡ t
least_stays t [] h = refl
least_stays t (e ∷ events) h =
    let same : min t e.time ≡ t = omega (arith, h.0) in
    ap (λ n. fold min n (map (λ e. e.time) events)) same ∙ least_stays t events h.1

module _ (case : Case) (is : IsCase case) where
  -- no event is earlier than the one that stands first
  none_earlier : (e : Event) (events : List Event) → IsRising event_before event_same (e ∷ events) → AllByRecursion (λ d. e.time ≤ d.time) events
  none_earlier e events rising =
      let m = simulation case in
      let law = lawful case is in
      all_counted m.before m.same (is_order m law) (λ d. e.time ≤ d.time) events
      (λ d there. elim (cases_Bool (m.before e d)) [
        | inl first ↦ law.timely e d first
        | inr not ↦ let same = law.total e d not (rising.0 d there) in let times : e.time ≡ d.time = ap (λ (e : Event). e.time) same in omega arith
      ])

  -- so its time is the least
  pub least_first : (events : List Event) → IsRising event_before event_same events → option_map (λ e. e.time) (slice_get events 0) ≡ reduce min (map (λ e. e.time) events)
  least_first [] rising = refl
  least_first (e ∷ events) rising = ap (λ n. Some n) (sym (least_stays e.time events (none_earlier e events rising)))

  -- and so it is of those that one router has sent
  pub least_sent : (r : ℕ) (events : List Event) → IsRising event_before event_same events
      → option_map (λ e. e.time) (slice_get (filter (λ e. e.src == r) events) 0) ≡ reduce min (map (λ e. e.time) (filter (λ e. e.src == r) events))
  least_sent r events rising = least_first (filter (λ e. e.src == r) events) (rising_part case is (λ e. e.src == r) events rising)

-- the times of three lists are those of the lists in one
pub times_of_all : (xs ys zs : List Event)
    → (map (λ e. e.time) xs ++ map (λ e. e.time) ys) ++ map (λ e. e.time) zs ≡ map (λ e. e.time) (xs ++ ys ++ zs)
times_of_all xs ys zs =
    let time = λ (e : Event). e.time in
    ap (λ ts. ts ++ map time zs) (sym (map-append time xs ys)) ∙ sym (map-append time (xs ++ ys) zs)
