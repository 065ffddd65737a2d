-- An event sought among updates of a time, from a place on.
use Rattle.std.proofs.Common.{◌≡◌, ◌≤◌, ◌<◌, ◌+◌, ◌-◌, ◌++◌, ℕ, suc, zero, Bool, cond, not, Option, Some, List, [], ◌∷◌}
use Rattle.std.proofs.Common.{count_by, drop, get_or, filter, length, map, position, take, refl, ap, sym, ◌∙◌, inl, inr, arith}
use Rattle.std.specs.List.{position_or_len, remove}
use Rattle.std.proofs.lemmas.List.{drop-map, length-drop, length-map}
use Rattle.std.proofs.lemmas.List.Edits.{length-remove}
use Rattle.std.proofs.lemmas.List.Elements.{filter-append}
use Rattle.std.proofs.lemmas.List.Quantifiers.{position-Some}
use Rattle.std.proofs.lemmas.List.Sums.{sum_by-cons}
use Rattle.tw_event.specs.declared.event.Event.{Event}
use Rattle.tw_event.specs.Order.{event_before, event_same}
use Rattle.tw_event.proofs.Order.{event_eq}
use Rattle.tw_sim.specs.Ordered.{one, take_out, times}
use Rattle.tw_sim.proofs.Ordered.{one_cases}
use Rattle.tw_ordered.specs.Buckets.{together}
use Rattle.tw_ordered.specs.InOrder.{earlier, least_with}
use Rattle.tw_calendar.specs.Update.{event_at, events_at}
use Rattle.tw_calendar.specs.declared.update.Update.{Update}
use Rattle.tw_ordered.proofs.Events.{event_law}
use Rattle.tw_ordered.proofs.Lists.{together_from}
use Rattle.tw_ordered.proofs.Places.{equals, map-remove, taken_at}
use Rattle.tw_calendar.proofs.Updates.{take_rest}

-- a search through what a function makes
module _ {X Y : Type 0} (p : Y → Bool) (f : X → Y) where
  first_through : (xs : List X) → position_or_len p (map f xs) ≡ position_or_len (λ x. p (f x)) xs
  first_through [] = refl
  first_through (x ∷ xs) = ap (λ n. cond (not (p (f x))) (1 + n) 0) (first_through xs)

  pub position_through : (xs : List X) → position p (map f xs) ≡ position (λ x. p (f x)) xs
  position_through xs = rw (first_through xs, length-map xs f) refl

pub count_through : (e : Event) (time : ℕ) (us : List Update) → count_by (λ u. equals e (event_at time u)) us ≡ times event_same e (events_at time us)
count_through e time [] = refl
count_through e time (u ∷ us) =
    sum_by-cons (λ v. cond (equals e (event_at time v)) 1 0) u us ∙ ap (λ b. cond b 1 0 + count_by (λ v. equals e (event_at time v)) us) (event_eq e (event_at time u))
    ∙ ap (λ n. one event_same e (event_at time u) + n) (count_through e time us)

-- a slice from a place to the end, as events
pub rest_events : (time : ℕ) (us : List Update) (i : ℕ) → events_at time (take (length us - i) (drop i us)) ≡ drop i (events_at time us)
rest_events time us i = ap (events_at time) (take_rest i us) ∙ sym (drop-map (event_at time) i us)

-- what is sought in a slice from a place to the end is sought in the events from that place on
pub sought_in : (e : Event) (time : ℕ) (us vs : List Update) (start : ℕ) (now : List Event) (r : Option ℕ) → vs ≡ us → events_at time us ≡ now
    → r ≡ position (λ u. equals e (event_at time u)) (take (length vs - start) (drop start vs)) → r ≡ position (equals e) (drop start now)
sought_in e time us vs start now r same view h =
    h ∙ ap (λ ws. position (λ u. equals e (event_at time u)) (take (length ws - start) (drop start ws))) same
    ∙ sym (position_through (equals e) (event_at time) (take (length us - start) (drop start us))) ∙ ap (position (equals e)) (rest_events time us start ∙ ap (drop start) view)

-- an event of another time is not there
none_at : (e : Event) (time : ℕ) (us : List Update) → (e.time ≡ time → ⊥) → times event_same e (events_at time us) ≡ 0
none_at e time [] h = refl
none_at e time (u ∷ us) h =
    let n = none_at e time us h in
    elim (one_cases event_before event_same event_law e (event_at time u)) [
      | inl z ↦ omega arith
      | inr q ↦ absurd (h (ap (λ d. d.time) q))
    ]

pub none_left : (e : Event) (time : ℕ) (us : List Update) (i : ℕ) → (e.time ≡ time → ⊥) → times event_same e (drop i (events_at time us)) ≡ 0
none_left e time us i h = ap (times event_same e) (drop-map (event_at time) i us) ∙ none_at e time (drop i us) h

remove_nothing : {X : Type 0} (k : ℕ) → remove {X = X} [] k ≡ []
remove_nothing zero = refl
remove_nothing (suc k) = refl

drop-remove : {X : Type 0} (s k n : ℕ) (xs : List X) → n ≡ s + k → drop s (remove xs n) ≡ remove (drop s xs) k
drop-remove zero k n xs h = ap (remove xs) (let q : n ≡ k = omega arith in q)
drop-remove (suc s) k zero xs h = absurd (omega arith)
drop-remove (suc s) k (suc n) [] h = sym (remove_nothing k)
drop-remove (suc s) k (suc n) (x ∷ xs) h = drop-remove s k n xs (omega arith)

-- the first place of an event from a place on
module _ (e : Event) (time : ℕ) (us : List Update) (start place n : ℕ) (sum : n ≡ start + place) (found : position (equals e) (drop start (events_at time us)) ≡ Some place) where
  pub found_within : n < length us
  found_within =
      let p = position-Some (equals e) (drop start (events_at time us)) place e found in
      let l = length-drop start (events_at time us) in
      let m = length-map us (event_at time) in
      omega (arith, p.0)

  pub found_left : drop start (events_at time (remove us n)) ≡ take_out event_same e (drop start (events_at time us))
  found_left =
      ap (drop start) (sym (map-remove (event_at time) us n)) ∙ drop-remove start place n (events_at time us) sum ∙ sym (taken_at e (drop start (events_at time us)) place found)

  pub found_long : start ≤ length (events_at time (remove us n))
  found_long =
      let l = length-remove us n found_within in
      let m = length-map (remove us n) (event_at time) in
      let k = found_within in
      omega arith

-- the least of one list and of another behind it
pub least_behind : (o : Option Event) (xs ys : List Event) → least_with o (xs ++ ys) ≡ least_with (least_with o xs) ys
least_behind o [] ys = refl
least_behind o (x ∷ xs) ys = least_behind (Some (earlier x o)) xs ys

-- the next of some lists
pub least_next : (p : Event → Bool) (o : Option Event) (i : ℕ) (xs : List Event) (lists : List (List Event)) → i < length lists → xs ≡ get_or lists i xs
    → least_with (least_with o (filter p xs)) (filter p (together (drop (i + 1) lists))) ≡ least_with o (filter p (together (drop i lists)))
least_next p o i xs lists l is =
    sym (least_behind o (filter p xs) (filter p (together (drop (i + 1) lists)))) ∙ ap (least_with o) (sym (filter-append p xs (together (drop (i + 1) lists))))
    ∙ ap (λ ys. least_with o (filter p ys)) (sym (together_from i xs lists l is))
