-- The least and the last time of some events.
use Rattle.std.proofs.Common.{take, set, ◌≡◌, ◌≤◌, ◌<◌, ◌+◌, ◌-◌, ◌==◌, ℕ, suc, zero, not, List, [], ◌∷◌, All, Contains, drop, filter, map, min, length, get_or, refl, ap, sym, ◌∙◌, subst, inl, inr, arith}
use Rattle.std.specs.Bool.{OnTrue}
use Rattle.std.specs.Result.{OnOk, is_ok}
use Rattle.std.specs.declared.result.Result.{Result}
use Rattle.std.specs.declared.result.Result.TheVariants.{Ok, Err}
use Rattle.std.specs.declared.alloc.AllocError.{AllocError}
use Rattle.std.proofs.lemmas.Bool.{cases_Bool, cases_lt, eq-eqb, false≢true, ne_eqb}
use Rattle.std.proofs.lemmas.List.{get_or_read, get_or-map, map-set}
use Rattle.std.specs.List.{swap_remove}
use Rattle.std.proofs.lemmas.List.Sorted.{IsPermutation-swap_remove}
use Rattle.tw_event.specs.declared.event.Event.{Event}
use Rattle.tw_event.specs.Order.{event_before, event_same}
use Rattle.tw_sim.specs.Ordered.{insert, one, times}
use Rattle.tw_sim.proofs.Counts.{none}
use Rattle.tw_sim.proofs.Ordered.{in_cons, one_cases, one_self, times-insert}
use Rattle.tw_ordered.specs.Buckets.{IsPlaced, together}
use Rattle.tw_ordered.specs.Times.{never}
use Rattle.tw_queue.specs.Times.{IsLeastTime}
use Rattle.tw_ordered.proofs.Ordered.{cases_zero, in_order-permutation, times-in_order}
use Rattle.tw_ordered.proofs.Events.{event_law, nothing, times-filter_no, times-filter_yes}
use Rattle.tw_ordered.proofs.Lists.{times-placed}
use Rattle.tw_ordered.proofs.Released.{no_length}

pub some_one : (xs : List Event) → 0 < length xs → (e : Event) × (0 < times event_same e xs)
some_one [] h = absurd (omega arith)
some_one (x ∷ xs) h =
    let own = one_self event_before event_same event_law x in
    (x, omega arith)

-- what a row of times says of its events
low_in_row : (xs : List Event) (t : ℕ) → ((k : ℕ) → k < length xs → t ≤ get_or (map (λ e. e.time) xs) k 0) → (e : Event) → 0 < times event_same e xs → t ≤ e.time
low_in_row [] t h e there = absurd (omega arith)
low_in_row (x ∷ xs) t h e there =
    elim (in_cons event_before event_same event_law e x xs there) [
      | inl q ↦ subst (λ d. t ≤ d.time) (sym q) (h 0 (omega arith))
      | inr l ↦ low_in_row xs t (λ k m. h (suc k) (omega arith)) e l
    ]

at_place : (xs : List Event) (k : ℕ) → k < length xs → (e : Event) × (0 < times event_same e xs) × (e.time ≡ get_or (map (λ e. e.time) xs) k 0)
at_place [] k h = absurd (omega arith)
at_place (x ∷ xs) zero h =
    let own = one_self event_before event_same event_law x in
    (x, omega arith, refl)
at_place (x ∷ xs) (suc k) h = grind (arith, at_place xs k (omega arith))

long_row : (xs : List Event) → length (map (λ e. e.time) xs) ≡ length xs
long_row [] = refl
long_row (x ∷ xs) = ap suc (long_row xs)

pub least_of_row : (xs : List Event) (row : List ℕ) (t : ℕ) → row ≡ map (λ e. e.time) xs → All (λ time. t ≤ time) row → Contains row t → IsLeastTime xs t
least_of_row xs row t row_is low there =
    let long = long_row xs in
    let all : All (λ time. t ≤ time) (map (λ e. e.time) xs) = subst (λ r. All (λ time. t ≤ time) r) row_is low in
    let own : Contains (map (λ e. e.time) xs) t = subst (λ r. Contains r t) row_is there in
    let r = at_place xs own.0 (let l = own.1 in omega arith) in
    record {
      bound = low_in_row xs t (λ k l. all k 0 (omega arith));
      reached = λ l. (r.0, r.1, r.2 ∙ sym (get_or_read (map (λ e. e.time) xs) own.0 t own.1 (sym own.2) 0));
      none = λ z. grind arith;
    }

-- an event more
pub least_put : (xs qs : List Event) (t s : ℕ) (e : Event) → IsLeastTime xs t → e.time < never → ((d : Event) → times event_same d qs ≡ one event_same d e + times event_same d xs) → s ≡ min t e.time
    → IsLeastTime qs s
least_put xs qs t s e h early counts s_is =
    let own = one_self event_before event_same event_law e in
    let mine : 0 < times event_same e qs = (let n = counts e in omega arith) in
    record {
      bound = λ d there.
          let n = counts d in
          elim (one_cases event_before event_same event_law d e) [
            | inl z ↦ (let b = h.bound d (omega arith) in omega arith)
            | inr q ↦ (let k = ap (λ x. x.time) q in omega arith)
          ];
      reached = λ l.
          elim (cases_lt t e.time) [
            | inl lt ↦
                elim (cases_zero (length xs)) [
                  | inl z ↦
                      (let k = h.none (no_length xs z) in
                      absurd (omega arith))
                  | inr some ↦ grind arith
                ]
            | inr ge ↦ (e, mine, omega arith)
          ];
      none = λ z.
          let k = ap (times event_same e) z in
          absurd (omega arith);
    }

-- the least of a row, whose times are the least ones of lists
module _ (key : Event → ℕ) (lists : List (List Event)) (placed : IsPlaced key lists) (few : (e : Event) → key e < 16)
    (early : (e : Event) → 0 < times event_same e (together lists) → e.time < never) (row : List ℕ) (least : (i : ℕ) → i < 16 → IsLeastTime (get_or lists i []) (get_or row i 0)) where
  pub in_list : (e : Event) → 0 < times event_same e (together lists) → 0 < times event_same e (get_or lists (key e) [])
  in_list e there = subst (λ n. 0 < n) (times-placed key lists placed e) there

  pub out_list : (i : ℕ) (e : Event) → 0 < times event_same e (get_or lists i []) → 0 < times event_same e (together lists)
  out_list i e there = grind (arith, times-placed)

  pub least_of_lists : (t : ℕ) → ((i : ℕ) → i < 16 → t ≤ get_or row i 0) → (i : ℕ) × (i < 16) × (get_or row i 0 ≡ t) → IsLeastTime (together lists) t
  least_of_lists t low at =
      let i = at.0 in
      let own = least i at.1 in
      let value = at.2 in
      let bound : (e : Event) → 0 < times event_same e (together lists) → t ≤ e.time =
      λ e there.
      let a = low (key e) (few e) in
      let b = (least (key e) (few e)).bound e (in_list e there) in
      omega arith in
      record {
        bound = bound;
        reached = λ l. grind (arith, cases_zero, some_one, no_length, out_list);
        none = λ z.
            let all : get_or lists i [] ≡ [] =
            nothing (get_or lists i []) (λ e. none (times event_same e (get_or lists i [])) (λ there.
            let k = ap (times event_same e) z in
            let l = out_list i e there in
            omega arith)) in
            sym value ∙ own.none all;
      }

suc_more : (i : ℕ) → suc (i + 1) ≡ suc i + 1
suc_more i = omega arith

-- the events at a time, from the i-th event on
pub kept_from : (t i : ℕ) (xs : List Event) → i < length xs → (x : Event) (e : Event)
    → times event_same e (filter (λ d. d.time == t) (drop i xs)) ≡ times event_same e (filter (λ d. d.time == t) (get_or xs i x ∷ [])) + times event_same e (filter (λ d. d.time == t) (drop (i + 1) xs))
kept_from t i [] l x e = absurd (omega arith)
kept_from t zero (y ∷ xs) l x e = grind arith
kept_from t (suc i) (y ∷ xs) l x e =
    kept_from t i xs (omega arith) x e
    ∙ ap (λ n. times event_same e (filter (λ d. d.time == t) (get_or xs i x ∷ [])) + times event_same e (filter (λ d. d.time == t) (drop n (y ∷ xs)))) (suc_more i)

-- the i-th event is copied into a queue
pub copied_on : (t i : ℕ) (xs old new : List Event) → i < length xs → (x e : Event)
    → times event_same e new ≡ times event_same e (filter (λ d. d.time == t) (get_or xs i x ∷ [])) + times event_same e old
    → times event_same e new + times event_same e (filter (λ d. d.time == t) (drop (i + 1) xs)) ≡ times event_same e old + times event_same e (filter (λ d. d.time == t) (drop i xs))
copied_on t i xs old new l x e h = grind (arith, kept_from)

pub inserted_counts : (e x : Event) (old new : List Event) → new ≡ insert event_before x old → times event_same e new ≡ one event_same e x + times event_same e old
inserted_counts e x old new h = ap (times event_same e) h ∙ times-insert event_before event_same e x old

-- one event, at the time or not
pub one_kept : (t : ℕ) (x : Event) → x.time ≡ t → (e : Event) → times event_same e (filter (λ d. d.time == t) (x ∷ [])) ≡ one event_same e x
one_kept t x b e = rw (eq-eqb x.time t b) (omega arith)

-- what is put into a queue, if it did not fail
pub put_if_ok : (r : Result Unit AllocError) (t : ℕ) (x : Event) (old new : List Event) → x.time ≡ t → OnOk r (new ≡ insert event_before x old)
    → OnTrue (is_ok r) ((e : Event) → times event_same e new ≡ times event_same e (filter (λ d. d.time == t) (x ∷ [])) + times event_same e old)
put_if_ok (Ok u) t x old new b h = λ e. grind (arith, inserted_counts, one_kept)
put_if_ok (Err f) t x old new b h = tt

-- an event is taken out of its place, and the last one takes it
module _ (xs : List Event) (i : ℕ) (within : i < length xs) (x : Event) where
  map_take : (n : ℕ) (ys : List Event) → map (λ e. e.time) (take n ys) ≡ take n (map (λ e. e.time) ys)
  map_take zero ys = refl
  map_take (suc n) [] = refl
  map_take (suc n) (y ∷ ys) = ap (λ r. y.time ∷ r) (map_take n ys)

  pub row_swapped : (r : ℕ) → swap_remove (map (λ e. e.time) xs) i r ≡ map (λ e. e.time) (swap_remove xs i x)
  row_swapped r = grind (arith, get_or-map, long_row, set, map-set, map_take)

  module _ (is : x ≡ get_or xs i x) where
    swap_counts : (e : Event) → times event_same e xs ≡ one event_same e x + times event_same e (swap_remove xs i x)
    swap_counts e =
        let same = in_order-permutation event_before event_same event_law xs (x ∷ swap_remove xs i x) (IsPermutation-swap_remove xs i x within is) in
        sym (times-in_order event_before event_same event_law e xs) ∙ ap (times event_same e) (sym same) ∙ times-in_order event_before event_same event_law e (x ∷ swap_remove xs i x)

    -- those at other times stay
    pub left_swapped : (t : ℕ) → x.time ≡ t → (e : Event) → times event_same e (filter (λ d. not (d.time == t)) (swap_remove xs i x)) ≡ times event_same e (filter (λ d. not (d.time == t)) xs)
    left_swapped t b e = grind (arith, cases_Bool, not, times-filter_yes, swap_counts, one_cases, event_law, false≢true, eq-eqb, times-filter_no)

-- none is at the time
pub none_at : (t : ℕ) (xs : List Event) → ((k : ℕ) → k < length xs → get_or (map (λ e. e.time) xs) k 0 ≡ t → ⊥) → filter (λ d. not (d.time == t)) xs ≡ xs
none_at t [] h = refl
none_at t (x ∷ xs) h =
    rw (ne_eqb x.time t (h 0 (omega arith))) (ap (λ ys. x ∷ ys) (none_at t xs (λ k l. h (suc k) (omega arith))))

-- the time of the event at a place, as the row has it
pub stamped : (xs : List Event) (row : List ℕ) → row ≡ map (λ e. e.time) xs → (i : ℕ) → i < length xs → (x : Event) → x ≡ get_or xs i x → (v : ℕ) → v ≡ get_or row i v → x.time ≡ v
stamped xs row alike i l x is v v_is = grind (arith, long_row, get_or_read, get_or-map)
