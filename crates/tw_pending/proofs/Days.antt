-- The lists of a ring, when an event is taken up and when a tick is over.
use Rattle.std.proofs.Common.{◌≡◌, ℕ, zero, suc, ◌+◌, ◌<◌, ◌≤◌, ◌%◌, List, [], ◌∷◌, ◌++◌, Some, get_or, length, length-append, set, slice_get, refl, ap, sym, ◌∙◌, subst, inl, inr, arith, ◌^◌}
use Rattle.std.proofs.Math.Seq.{map-set_same}
use Rattle.std.proofs.lemmas.Bool.{cases_eq}
use Rattle.std.proofs.lemmas.List.{get_or-map, map-set}
use Rattle.std.proofs.lemmas.Option.{get_or_from_slice_get}
use Rattle.std.specs.declared.vec.Vec.{Vec}
use Rattle.std.specs.List.{AllByRecursion}
use Rattle.tw_pending.specs.Ring.{AreBefore, AreDays, IsOn, all_of, lists_of}
use Rattle.tw_pending.specs.declared.ring.TheConstants.{DAYS}

apart : (m n : ℕ) → m ≤ n → (m ≡ n → ⊥) → m < n
apart m n le other = elim (cases_eq m n) [ inl is ↦ absurd (other is) | inr differ ↦ omega (arith, differ) ]

pub some_of : (n : ℕ) → (n ≡ 0 → ⊥) → 0 < n
some_of zero other = absurd (other refl)
some_of (suc n) other = omega arith

module _ {E : Type 0} where
  pub all-append : (P : E → Type 0) (xs ys : List E) → AllByRecursion P xs → AllByRecursion P ys → AllByRecursion P (xs ++ ys)
  all-append P [] ys a b = b
  all-append P (x ∷ xs) ys a b = (a.0, all-append P xs ys a.1 b)

  all-front : (P : E → Type 0) (xs ys : List E) → AllByRecursion P (xs ++ ys) → AllByRecursion P xs
  all-front P [] ys a = tt
  all-front P (x ∷ xs) ys a = (a.0, all-front P xs ys a.1)

  all-back : (P : E → Type 0) (xs ys : List E) → AllByRecursion P (xs ++ ys) → AllByRecursion P ys
  all-back P [] ys a = a
  all-back P (x ∷ xs) ys a = all-back P xs ys a.1

  pub all-map : (P Q : E → Type 0) → ((e : E) → P e → Q e) → (xs : List E) → AllByRecursion P xs → AllByRecursion Q xs
  all-map P Q f [] a = tt
  all-map P Q f (x ∷ xs) a = (f x a.0, all-map P Q f xs a.1)

  pub nil : (xs : List E) → length xs ≡ 0 → xs ≡ []
  nil [] h = refl
  nil (x ∷ xs) h = absurd (omega arith)

  -- how many there are, when one list is another
  pub length_set : (days : List (List E)) (i : ℕ) (day new : List E) → slice_get days i ≡ Some day → length (all_of (set days i new)) + length day ≡ length (all_of days) + length new
  length_set [] i day new h = absurd (cc)
  length_set (d ∷ ds) zero day new h =
      let is : d ≡ day = cc in
      let a = length-append new (all_of ds) in
      let b = length-append d (all_of ds) in
      let c = ap length is in
      omega arith
  length_set (d ∷ ds) (suc i) day new h =
      let k = length_set ds i day new h in
      let a = length-append d (all_of (set ds i new)) in
      let b = length-append d (all_of ds) in
      omega arith

  pub within : (days : List (List E)) (i : ℕ) → i < length days → (day : List E) × (slice_get days i ≡ Some day)
  within [] i h = absurd (omega arith)
  within (d ∷ ds) zero h = (d, refl)
  within (d ∷ ds) (suc i) h = within ds i (omega arith)

  module _ (time : E → ℕ) where
    pub get_day : (today place : ℕ) (days : List (List E)) (i : ℕ) (day : List E) → AreDays time today place days → slice_get days i ≡ Some day
        → AllByRecursion (IsOn time today (place + i)) day
    get_day today place [] i day are h = absurd (cc)
    get_day today place (d ∷ ds) zero day are h =
        let is : d ≡ day = cc in
        let here : place ≡ place + 0 = omega arith in
        subst (λ p. AllByRecursion (IsOn time today p) day) here (subst (λ xs. AllByRecursion (IsOn time today place) xs) is are.0)
    get_day today place (d ∷ ds) (suc i) day are h =
        let there : place + 1 + i ≡ place + suc i = omega arith in
        subst (λ p. AllByRecursion (IsOn time today p) day) there (get_day today (place + 1) ds i day are.1 h)

    pub set_day : (today place : ℕ) (days : List (List E)) (i : ℕ) (new : List E) → AreDays time today place days → AllByRecursion (IsOn time today (place + i)) new
        → AreDays time today place (set days i new)
    set_day today place [] i new are h = tt
    set_day today place (d ∷ ds) zero new are h =
        let here : place + 0 ≡ place = omega arith in
        (subst (λ p. AllByRecursion (IsOn time today p) new) here h, are.1)
    set_day today place (d ∷ ds) (suc i) new are h =
        let there : place + suc i ≡ place + 1 + i = omega arith in
        (are.0, set_day today (place + 1) ds i new are.1 (subst (λ p. AllByRecursion (IsOn time today p) new) there h))

    -- a tick later
    later_on : (today place : ℕ) → ((today + 1) % DAYS ≡ place → ⊥) → (e : E) → IsOn time today place e → IsOn time (today + 1) place e
    later_on today place other e on = record {
      at = on.at;
      later =
          (let later = on.later in
          apart (today + 1) (time e) (omega arith) (λ is. other (ap (λ t. t % DAYS) is ∙ on.at)));
      near = (let near = on.near in omega arith);
      fits = on.fits;
    }

    rest_later : (today place : ℕ) (days : List (List E)) → (today + 1) % DAYS < place → AreDays time today place days → AreDays time (today + 1) place days
    rest_later today place [] over are = tt
    rest_later today place (d ∷ ds) over are =
        (all-map _ _ (later_on today place (λ is. omega (arith, is))) d are.0, rest_later today (place + 1) ds (omega arith) are.1)

    pub days_later : (today place : ℕ) (days : List (List E)) (i : ℕ) → (today + 1) % DAYS ≡ place + i → AreDays time today place days → AreDays time (today + 1) place (set days i [])
    days_later today place [] i at are = tt
    days_later today place (d ∷ ds) zero at are = (tt, rest_later today (place + 1) ds (omega arith) are.1)
    days_later today place (d ∷ ds) (suc i) at are =
        (all-map _ _ (later_on today place (λ is. omega (arith, is))) d are.0, days_later today (place + 1) ds i (omega arith) are.1)

    -- no event is before the next tick
    pub all_later : (today place : ℕ) (days : List (List E)) → AreDays time today place days → AllByRecursion (λ e. today < time e) (all_of days)
    all_later today place [] are = tt
    all_later today place (d ∷ ds) are =
        all-append _ d (all_of ds) (all-map _ _ (λ e on. on.later) d are.0) (all_later today (place + 1) ds are.1)

    pub all_fit : (today place : ℕ) (days : List (List E)) → AreDays time today place days → AllByRecursion (λ e. time e < 2 ^ 64) (all_of days)
    all_fit today place [] are = tt
    all_fit today place (d ∷ ds) are =
        all-append _ d (all_of ds) (all-map _ _ (λ e on. on.fits) d are.0) (all_fit today (place + 1) ds are.1)

    pub all_near : (today place : ℕ) (days : List (List E)) → AreDays time today place days → AreBefore time (today + DAYS) days
    all_near today place [] are = tt
    all_near today place (d ∷ ds) are =
        all-append _ d (all_of ds) (all-map _ _ (λ e on. on.near) d are.0) (all_near today (place + 1) ds are.1)

    -- where some wait, there is a next tick
    pub has_next : (today : ℕ) (xs : List E) → 0 < length xs → AllByRecursion (λ e. today < time e) xs → AllByRecursion (λ e. time e < 2 ^ 64) xs → today + 1 < 2 ^ 64
    has_next today [] some later fit = absurd (omega arith)
    has_next today (x ∷ xs) some later fit = let a = later.0 in let b = fit.0 in omega arith

    -- and it is before all that they are before
    pub before_next : (today horizon : ℕ) (xs : List E) → 0 < length xs → AllByRecursion (λ e. today < time e) xs → AllByRecursion (λ e. time e < horizon) xs → today + 1 < horizon
    before_next today horizon [] some later before = absurd (omega arith)
    before_next today horizon (x ∷ xs) some later before = let a = later.0 in let b = before.0 in omega arith

    pub before_set : (horizon : ℕ) (days : List (List E)) (i : ℕ) → AreBefore time horizon days → AreBefore time horizon (set days i [])
    before_set horizon [] i h = tt
    before_set horizon (d ∷ ds) zero h = all-back _ d (all_of ds) h
    before_set horizon (d ∷ ds) (suc i) h = all-append _ d (all_of (set ds i [])) (all-front _ d (all_of ds) h) (before_set horizon ds i (all-back _ d (all_of ds) h))

    -- lists with nothing in them are those of each tick
    pub days_empty : (today later place : ℕ) (days : List (List E)) → length (all_of days) ≡ 0 → AreDays time today place days → AreDays time later place days
    days_empty today later place [] none are = tt
    days_empty today later place (d ∷ ds) none are =
        let both = length-append d (all_of ds) in
        (subst (λ xs. AllByRecursion (IsOn time later place) xs) (sym (nil d (omega arith))) tt, days_empty today later (place + 1) ds (omega arith) are.1)

    -- lists with nothing in them are those of each tick
    pub all_empty : (today place : ℕ) (days : List (List E)) → length (all_of days) ≡ 0 → AreDays time today place days
    all_empty today place [] none = tt
    all_empty today place (d ∷ ds) none =
        let both = length-append d (all_of ds) in
        (subst (λ xs. AllByRecursion (IsOn time today place) xs) (sym (nil d (omega arith))) tt, all_empty today (place + 1) ds (omega arith))

-- the lists in vectors, when one of these is another
module _ {E Z : Type 0} (days : List (Vec E Z)) (i : ℕ) where
  pub lists_set : (day : Vec E Z) → lists_of (set days i day) ≡ set (lists_of days) i day.items
  lists_set day = map-set (λ (d : Vec E Z). d.items) days i day

  pub lists_same : (day old : Vec E Z) → old ≡ get_or days i old → day.items ≡ old.items → lists_of (set days i day) ≡ lists_of days
  lists_same day old at same = map-set_same (λ (d : Vec E Z). d.items) days i day old (same ∙ ap (λ (d : Vec E Z). d.items) at)

  pub day_is : (old : Vec E Z) (day : List E) → i < length days → old ≡ get_or days i old → slice_get (lists_of days) i ≡ Some day → old.items ≡ day
  day_is old day within at there =
      ap (λ (d : Vec E Z). d.items) at ∙ (sym (get_or-map (λ (d : Vec E Z). d.items) days i old [] within) ∙ get_or_from_slice_get (lists_of days) i day [] there)

-- one list more, with nothing in it
pub more_empty : {E Z : Type 0} (days : List (Vec E Z)) (day : Vec E Z) → day.items ≡ [] → length (all_of (lists_of days)) ≡ 0 → length (all_of (lists_of (days ++ day ∷ []))) ≡ 0
more_empty [] day none h = let a = length-append day.items [] in let b = ap length none in omega arith
more_empty (d ∷ ds) day none h =
    let a = length-append d.items (all_of (lists_of ds)) in
    let b = length-append d.items (all_of (lists_of (ds ++ day ∷ []))) in
    let k = more_empty ds day none (omega arith) in
    omega arith
