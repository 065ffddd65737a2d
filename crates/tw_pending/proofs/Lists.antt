-- The lists of a ring, when an event is taken out of one.
use Rattle.std.proofs.Common.{◌≡◌, ℕ, zero, suc, ◌+◌, ◌-◌, ◌<◌, ◌%◌, List, [], ◌∷◌, Some, length, length-set, remove, set, slice_get, refl, ap, ◌∙◌, inl, inr, arith}
use Rattle.std.proofs.lemmas.Bool.{cases_Bool}
use Rattle.std.specs.Cmp.{IsTotalOrder}
use Rattle.std.specs.List.{AllByRecursion}
use Rattle.std.specs.declared.cmp.Ordering.{Ordering}
use Rattle.std.specs.declared.cmp.Ordering.TheVariants.{Equal}
use Rattle.tw_pending.specs.Order.{AreWith, count, is_same}
use Rattle.tw_pending.specs.Ring.{AreDays, IsOn, IsRing, all_of}
use Rattle.tw_pending.specs.declared.ring.TheConstants.{DAYS}
use Rattle.tw_pending.proofs.All.{count-append, count_set}
use Rattle.tw_pending.proofs.Counts.{law}
use Rattle.tw_pending.proofs.Days.{get_day, length_set, set_day}
use Rattle.tw_pending.proofs.Removed.{all-remove, count-remove}

length-remove : {X : Type 0} (xs : List X) (i : ℕ) → i < length xs → length (remove xs i) + 1 ≡ length xs
length-remove [] i l = absurd (omega arith)
length-remove (x ∷ xs) zero l = omega arith
length-remove (x ∷ xs) (suc i) l = let k = length-remove xs i (omega arith) in omega arith

module _ {E : Type 0} (cmp : E → E → Ordering) where
  -- one less stands in a list
  pub removed_one : (days : List (List E)) (i at : ℕ) (day : List E) (x : E) → slice_get days i ≡ Some day → slice_get day at ≡ Some x
      → AreWith cmp (x ∷ []) (all_of (set days i (remove day at))) (all_of days)
  removed_one days i at day x h k = λ e.
      let a = count_set cmp e days i day (remove day at) h in
      let b = count-remove cmp e x day at k in
      omega arith

  module _ (order : IsTotalOrder cmp) (exact : (d e : E) → cmp d e ≡ Equal → d ≡ e) (time : E → ℕ) (today : ℕ) (e : E) where
    -- an event stands in the list of its tick alone
    not_on : (place : ℕ) (xs : List E) → (time e % DAYS ≡ place → ⊥) → AllByRecursion (IsOn time today place) xs → count cmp e xs ≡ 0
    not_on place [] other on = refl
    not_on place (x ∷ xs) other on =
        elim (cases_Bool (is_same cmp e x)) [
          | inl same ↦ absurd (other (ap (λ y. time y % DAYS) ((law cmp order exact).same_is e x same) ∙ on.0.at))
          | inr differs ↦ (let k = not_on place xs other on.1 in rw differs (omega arith))
        ]

    none_after : (place : ℕ) (days : List (List E)) → time e % DAYS < place → AreDays time today place days → count cmp e (all_of days) ≡ 0
    none_after place [] l are = refl
    none_after place (d ∷ ds) l are =
        let a = not_on place d (λ is. omega (arith, is)) are.0 in
        let b = none_after (place + 1) ds (omega arith) are.1 in
        let c = count-append cmp e d (all_of ds) in
        omega arith

    pub only_there : (place : ℕ) (days : List (List E)) (i : ℕ) (day : List E) → time e % DAYS ≡ place + i → AreDays time today place days → slice_get days i ≡ Some day
        → count cmp e (all_of days) ≡ count cmp e day
    only_there place [] i day at are h = absurd (cc)
    only_there place (d ∷ ds) zero day at are h =
        let is : d ≡ day = cc in
        let a = none_after (place + 1) ds (omega arith) are.1 in
        let b = count-append cmp e d (all_of ds) in
        let c = ap (count cmp e) is in
        omega arith
    only_there place (d ∷ ds) (suc i) day at are h =
        let a = not_on place d (λ is. omega (arith, is)) are.0 in
        let b = only_there (place + 1) ds i day (omega arith) are.1 h in
        let c = count-append cmp e d (all_of ds) in
        omega arith

module _ {E : Type 0} (time : E → ℕ) (today waiting : ℕ) (days : List (List E)) (ring : IsRing time today waiting days) where
  -- an event is taken out of a list
  module _ (place at : ℕ) (day : List E) (there : slice_get days place ≡ Some day) (l : at < length day) where
    pub some_wait : 0 < waiting
    some_wait = let a = length_set days place day [] there in let c = ring.count in omega arith

    pub removed_ring : IsRing time today (waiting - 1) (set days place (remove day at))
    removed_ring = record {
      are = set_day time today 0 days place (remove day at) ring.are (all-remove (IsOn time today (0 + place)) day at (get_day time today 0 days place day ring.are there));
      count = (let a = length_set days place day (remove day at) there in let b = length-remove day at l in let c = ring.count in omega arith);
      many = elim ring.many [ inl h ↦ inl (length-set days place (remove day at) ∙ h) | inr h ↦ inr (length-set days place (remove day at) ∙ h) ];
    }
