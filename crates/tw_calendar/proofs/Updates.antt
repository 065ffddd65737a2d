-- Updates, and the events that they are at a time.
use Rattle.std.proofs.Common.{IfSome, ◌≡◌, ◌+◌, ◌-◌, ◌<◌, ◌++◌, ℕ, suc, zero, slice_get, List, [], ◌∷◌, drop, length, take, get_or, set, refl, ap, sym, ◌∙◌, arith}
use Rattle.std.proofs.lemmas.Cmp.{tied_itself, nat_cmp_total}
use Rattle.std.proofs.lemmas.List.{drop_more, get_or-map, get_or_read, length-drop, length-map, take_all}
use Rattle.std.proofs.lemmas.List.Sorted.{IsPermutation-map}
use Rattle.std.specs.List.Sorted.{IsPermutation, IsSorted}
use Rattle.std.specs.Ordering.{is_lt}
use Rattle.tw_event.specs.declared.event.Event.{Event}
use Rattle.tw_event.specs.Order.{event_before, event_cmp, event_same}
use Rattle.tw_sim.specs.Ordered.{times}
use Rattle.tw_ordered.specs.Buckets.{together}
use Rattle.tw_ordered.specs.InOrder.{in_order}
use Rattle.tw_calendar.specs.Update.{event_at, events_at}
use Rattle.tw_calendar.specs.declared.update.Update.{Update}
use Rattle.tw_calendar.specs.contracts.update.UpdateOrd.TheImpl as update_ord
use Rattle.tw_ordered.proofs.Events.{event_law}
use Rattle.tw_ordered.proofs.Lists.{times-push, times-set}
use Rattle.tw_ordered.proofs.Ordered.{in_order-permutation, in_order_sorted}

-- updates are ordered as their events
pub update_order : (time : ℕ) (u v : Update) → update_ord.ghosts.cmp u v ≡ event_cmp (event_at time u) (event_at time v)
update_order time u v = rw (tied_itself nat_cmp_total time) refl

-- no update
nobody : Update
nobody = record { dst = 0; src = 0; seq = 0; path = record { 0 = 0 }; session = 0 }

read_event : (time : ℕ) (us : List Update) (k : ℕ) (d : Event) → k < length us → event_at time (get_or us k nobody) ≡ get_or (events_at time us) k d
read_event time us k d l = sym (get_or-map (event_at time) us k nobody d l)

-- updates, sorted
pub sorted_updates : (time : ℕ) (us vs : List Update) → IsPermutation us vs → IsSorted update_ord.ghosts.cmp vs → events_at time vs ≡ in_order event_before (events_at time us)
sorted_updates time us vs p h =
    sym (in_order_sorted event_before event_same (events_at time vs) (λ k d l m.
    let long = length-map vs (event_at time) in
    let a = read_event time vs (k + 1) d (omega arith) in
    let b = read_event time vs k d (omega arith) in
    (λ i. event_before (sym a i) (sym b i)) ∙ sym (ap is_lt (update_order time (get_or vs (k + 1) nobody) (get_or vs k nobody))) ∙ h k nobody l (omega arith)))
    ∙ in_order-permutation event_before event_same event_law (events_at time us) (events_at time vs) (IsPermutation-map (event_at time) us vs p)

-- the next update goes to the end of the list of some router
pub put_update : (time : ℕ) (us : List Update) (i : ℕ) (d : Update) (router : ℕ) (lists : List (List Event)) (own more : List Event) (all : Event → ℕ)
    → i < length us → router < length lists → own ≡ get_or lists router own → more ≡ get_or lists router own ++ event_at time (get_or us i d) ∷ []
    → ((e : Event) → times event_same e (together lists) + times event_same e (events_at time (drop i us)) ≡ all e)
    → (e : Event) → times event_same e (together (set lists router more)) + times event_same e (events_at time (drop (i + 1) us)) ≡ all e
put_update time us i d router lists own more all there within read put before e =
    let x = event_at time (get_or us i d) in
    let was = ap (times event_same e) (get_or_read lists router own within read []) in
    let set_one = times-set router more lists within e in
    let one_more = ap (times event_same e) (put ∙ ap (λ xs. xs ++ x ∷ []) (sym read)) in
    let pushed = times-push e x own in
    let left = ap (λ xs. times event_same e (events_at time xs)) (drop_more us i d there) in
    let all_before = before e in
    omega arith

-- what a slice from a place to the end has
pub take_rest : {A : Type 0} (n : ℕ) (xs : List A) → take (length xs - n) (drop n xs) ≡ drop n xs
take_rest n xs =
    let long = length-drop n xs in
    take_all (length xs - n) (drop n xs) (omega arith)

-- all are at that time
pub time_of : (time : ℕ) (us : List Update) (i : ℕ) → IfSome (slice_get (events_at time us) i) (λ e. e.time ≡ time)
time_of time [] zero = tt
time_of time [] (suc i) = tt
time_of time (u ∷ us) zero = refl
time_of time (u ∷ us) (suc i) = time_of time us i

-- a list of one update is in order
pub only_in_order : (time : ℕ) (u : Update) (us vs : List Update) → vs ≡ u ∷ [] → length us ≡ 1 → u ≡ get_or us 0 u → events_at time vs ≡ in_order event_before (events_at time us)
unfolding in_order
only_in_order time u [] vs h l r = absurd (omega arith)
only_in_order time u (v ∷ []) vs h l r = ap (events_at time) h ∙ ap (λ x. event_at time x ∷ []) r
only_in_order time u (v ∷ w ∷ us) vs h l r = absurd (omega arith)
