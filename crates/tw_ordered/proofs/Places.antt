-- The place of an event, and how often an event is there.
use Rattle.std.proofs.Common.{◌≡◌, ◌+◌, ◌<◌, ◌≤◌, ℕ, suc, zero, Bool, true, false, cond, Some, None, List}
use Rattle.std.proofs.Common.{[], ◌∷◌, count_by, length, map, nat_lt, get_or, position, refl, ap, sym, ◌∙◌, inl, inr, arith}
use Rattle.std.specs.List.{position_or_len, remove}
use Rattle.std.proofs.lemmas.Bool.{cases_Bool, ltb-false}
use Rattle.std.proofs.lemmas.Option.{none-some}
use Rattle.std.proofs.lemmas.List.Quantifiers.{position-Some}
use Rattle.std.proofs.lemmas.List.Sums.{sum_by-cons}
use Rattle.tw_event.specs.declared.event.Event.{Event}
use Rattle.tw_event.specs.Order.{event_same}
use Rattle.tw_event.specs.contracts.event.EventPartialEq.TheImpl as event_eqs
use Rattle.tw_event.proofs.Order.{event_eq}
use Rattle.tw_sim.specs.Ordered.{one, take_out, times}

-- whether two events are equal, as the code has it
abbrev pub equals : Event → Event → Bool
equals e x = event_eqs.ghosts.eq e x

pub count_times : (e : Event) (xs : List Event) → count_by (equals e) xs ≡ times event_same e xs
count_times e [] = refl
count_times e (x ∷ xs) =
    sum_by-cons (λ y. cond (equals e y) 1 0) x xs ∙ ap (λ b. cond b 1 0 + count_by (equals e) xs) (event_eq e x) ∙ ap (λ n. one event_same e x + n) (count_times e xs)

pub map-remove : {X Y : Type 0} (f : X → Y) (xs : List X) (i : ℕ) → remove (map f xs) i ≡ map f (remove xs i)
map-remove f [] zero = refl
map-remove f [] (suc i) = refl
map-remove f (x ∷ xs) zero = refl
map-remove f (x ∷ xs) (suc i) = ap (λ ys. f x ∷ ys) (map-remove f xs i)

-- without a place no element passes
module _ {X : Type 0} (p : X → Bool) where
  at_place : (x : X) (xs : List X) → p x ≡ false → ((k : ℕ) (d : X) → k < length xs → p (get_or xs k d) ≡ false) → (k : ℕ) (d : X) → k < length (x ∷ xs) → p (get_or (x ∷ xs) k d) ≡ false
  at_place x xs b h zero d l = b
  at_place x xs b h (suc k) d l = h k d (omega arith)

  none_passes : (xs : List X) → length xs ≤ position_or_len p xs → (k : ℕ) (d : X) → k < length xs → p (get_or xs k d) ≡ false
  none_passes [] h k d l = absurd (omega arith)
  none_passes (x ∷ xs) h k d l =
      elim (cases_Bool (p x)) [
        | inl b ↦ grind arith
        | inr b ↦
            let z : length (x ∷ xs) ≤ 1 + position_or_len p xs = rw b at h in
            at_place x xs b (none_passes xs (omega arith)) k d l
      ]

  pub missed : (xs : List X) → position p xs ≡ None → (k : ℕ) (d : X) → k < length xs → p (get_or xs k d) ≡ false
  missed xs h = grind (arith, cases_Bool, nat_lt, none-some, none_passes, ltb-false)

-- the first place of an event is where it comes out
module _ (e : Event) where
  taken_first : (xs : List Event) (i : ℕ) (d : Event) → i < length xs → equals e (get_or xs i d) ≡ true → ((k : ℕ) → k < i → equals e (get_or xs k d) ≡ false) → take_out event_same e xs ≡ remove xs i
  taken_first [] i d l y n = absurd (omega arith)
  taken_first (x ∷ xs) zero d l y n = rw (sym (event_eq e x) ∙ y) refl
  taken_first (x ∷ xs) (suc i) d l y n =
      rw (sym (event_eq e x) ∙ n 0 (omega arith)) (ap (λ ys. x ∷ ys) (taken_first xs i d (omega arith) y (λ k h. n (suc k) (omega arith))))

  there_at : (xs : List Event) (i : ℕ) (d : Event) → i < length xs → equals e (get_or xs i d) ≡ true → 0 < times event_same e xs
  there_at [] i d l y = absurd (omega arith)
  there_at (x ∷ xs) zero d l y = rw (sym (event_eq e x) ∙ y) (omega arith)
  there_at (x ∷ xs) (suc i) d l y = grind (arith, there_at xs i d (omega arith) y)

  pub taken_at : (xs : List Event) (i : ℕ) → position (equals e) xs ≡ Some i → take_out event_same e xs ≡ remove xs i
  taken_at xs i h =
      let p = position-Some (equals e) xs i e h in
      taken_first xs i e p.0 p.1 p.2

  pub there : (xs : List Event) (i : ℕ) → position (equals e) xs ≡ Some i → 0 < times event_same e xs
  there xs i h =
      let p = position-Some (equals e) xs i e h in
      there_at xs i e p.0 p.1

  not_there : (xs : List Event) → ((k : ℕ) → k < length xs → equals e (get_or xs k e) ≡ false) → times event_same e xs ≡ 0
  not_there [] h = refl
  not_there (x ∷ xs) h =
      let n = not_there xs (λ k l. h (suc k) (omega arith)) in
      rw (sym (event_eq e x) ∙ h 0 (omega arith)) (omega arith)

  pub nowhere : (xs : List Event) → position (equals e) xs ≡ None → times event_same e xs ≡ 0
  nowhere xs h = not_there xs (λ k l. missed (equals e) xs h k e l)
