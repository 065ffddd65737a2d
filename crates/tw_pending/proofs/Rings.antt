-- A ring, when an event is taken up, when a tick is over, and when it is empty.
use Rattle.std.proofs.Common.{◌≡◌, ℕ, ◌+◌, ◌-◌, ◌<◌, ◌≤◌, ◌%◌, ◌^◌, List, [], ◌∷◌, ◌++◌, Some, length, length-append, length-set, set, slice_get, refl, ◌∙◌, inl, inr, arith}
use Rattle.std.specs.List.{AllByRecursion}
use Rattle.tw_pending.specs.Ring.{AreBefore, IsOn, IsRing, all_of}
use Rattle.tw_pending.specs.declared.ring.TheConstants.{DAYS}
use Rattle.tw_pending.proofs.Days.{all-append, all-map, all_fit, all_later, before_next, days_empty, days_later, get_day, has_next, length_set, set_day}

module _ {E : Type 0} (time : E → ℕ) (today waiting : ℕ) (days : List (List E)) (ring : IsRing time today waiting days) where
  pub kept_ring : (e : E) (place : ℕ) (day : List E) → time e % DAYS ≡ place → today < time e → time e < today + DAYS → time e < 2 ^ 64 → slice_get days place ≡ Some day
      → IsRing time today (waiting + 1) (set days place (day ++ e ∷ []))
  kept_ring e place day at later near fits there = record {
    are =
        set_day time today 0 days place (day ++ e ∷ []) ring.are
        (all-append (IsOn time today (0 + place)) day (e ∷ []) (get_day time today 0 days place day ring.are there)
        (record { at = at ∙ omega arith; later = later; near = near; fits = fits }, tt));
    count = (let a = length_set days place day (day ++ e ∷ []) there in let b = length-append day (e ∷ []) in let c = ring.count in omega arith);
    many = elim ring.many [ inl h ↦ inl (length-set days place (day ++ e ∷ []) ∙ h) | inr h ↦ inr (length-set days place (day ++ e ∷ []) ∙ h) ];
  }

  -- no day has more than wait
  pub day_few : (place : ℕ) (day : List E) → slice_get days place ≡ Some day → length day ≤ waiting
  day_few place day there = let a = length_set days place day [] there in let c = ring.count in omega arith

  -- where some wait, there is a list for each tick, and a next tick
  none_without : (ds : List (List E)) → length ds ≡ 0 → length (all_of ds) ≡ 0
  none_without [] h = refl
  none_without (d ∷ ds) h = absurd (omega arith)

  pub full_days : 0 < waiting → length days ≡ DAYS
  full_days some = elim ring.many [ inl h ↦ h | inr h ↦ absurd (let a = none_without days h in let c = ring.count in omega arith) ]

  pub next_tick : 0 < waiting → today + 1 < 2 ^ 64
  next_tick some = let c = ring.count in has_next time today (all_of days) (omega arith) (all_later time today 0 days ring.are) (all_fit time today 0 days ring.are)

  pub next_soon : (horizon : ℕ) → 0 < waiting → AreBefore time horizon days → today + 1 < horizon
  next_soon horizon some before = let c = ring.count in before_next time today horizon (all_of days) (omega arith) (all_later time today 0 days ring.are) before

  -- the next tick, whose events have gone
  pub next_ring : (place : ℕ) (day : List E) → (today + 1) % DAYS ≡ place → slice_get days place ≡ Some day → IsRing time (today + 1) (waiting - length day) (set days place [])
  next_ring place day at there = record {
    are = days_later time today 0 days place (at ∙ omega arith) ring.are;
    count = (let a = length_set days place day [] there in let c = ring.count in omega arith);
    many = elim ring.many [ inl h ↦ inl (length-set days place [] ∙ h) | inr h ↦ inr (length-set days place [] ∙ h) ];
  }

  -- they are no later than it
  pub next_begun : (place : ℕ) (day : List E) → (today + 1) % DAYS ≡ place → slice_get days place ≡ Some day → AllByRecursion (λ e. time e ≤ today + 1) day
  next_begun place day at there =
      all-map _ _ (λ e on. let a = on.at in let b = on.later in let c = on.near in omega arith) day (get_day time today 0 days place day ring.are there)

  -- a ring in which none waits is that of any tick
  pub idle_ring : (later : ℕ) → waiting ≡ 0 → IsRing time later waiting days
  idle_ring later none = record {
    are = days_empty time today later 0 days (ring.count ∙ none) ring.are;
    count = ring.count;
    many = ring.many;
  }
