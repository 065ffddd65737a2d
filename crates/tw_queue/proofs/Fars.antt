-- Events in sixteen buckets by their times, and those that stand before them.
use Rattle.std.proofs.Common.{◌≡◌, ◌≤◌, ◌<◌, ◌+◌, ◌++◌, ◌==◌, ◌/◌, ◌%◌, ℕ, not, false, Option, Some, List, [], ◌∷◌, filter, min, length, get_or, set, refl, ap, sym, ◌∙◌, subst, inl, inr, arith}
use Rattle.std.proofs.Common.{get_or-set_same, get_or-set_other, length-set}
use Rattle.std.specs.Result.{OnOk}
use Rattle.std.specs.declared.result.Result.{Result}
use Rattle.std.specs.declared.result.Result.TheVariants.{Ok, Err}
use Rattle.std.specs.declared.alloc.AllocError.{AllocError}
use Rattle.std.proofs.lemmas.Bool.{cases_Bool, cases_eq, eqb-false, eqb-true}
use Rattle.tw_event.specs.declared.event.Event.{Event}
use Rattle.tw_event.specs.Order.{event_before, event_same}
use Rattle.tw_sim.specs.Ordered.{insert, one, take_out, times}
use Rattle.tw_sim.proofs.Counts.{none}
use Rattle.tw_sim.proofs.Ordered.{one_cases}
use Rattle.tw_ordered.specs.Buckets.{together}
use Rattle.tw_queue.specs.Far.{AreFar, bucket_of}
use Rattle.tw_ordered.specs.InOrder.{earlier, in_order, least_with}
use Rattle.tw_queue.specs.Times.{AreNearFirst, IsLeastTime}
use Rattle.tw_ordered.specs.Times.{never}
use Rattle.tw_queue.specs.declared.far.FarEvents.TheInside.{Inside}
use Rattle.tw_ordered.proofs.Ordered.{in_order-inserted, in_order-taken, times-in_order}
use Rattle.tw_ordered.proofs.Events.{event_law, nothing, times-filter_no, times-filter_yes}
use Rattle.tw_ordered.proofs.Lists.{none_placed, placed-set, placed_inserted, times-placed, times-push, times-set, times-take_out-le, together_none}
use Rattle.tw_queue.proofs.Times.{least_of_lists, least_put}

same_time : (d : Event) (t : ℕ) → d.time ≡ t → not (d.time == t) ≡ false
same_time d t q =
    elim (cases_Bool (d.time == t)) [ inl b ↦ ap not b | inr b ↦ absurd (eqb-false d.time t b q) ]

few : (e : Event) → bucket_of e < 16
few e = omega arith

-- a least time changes beside its bucket
least_set : (lists : List (List Event)) (row : List ℕ) (p : ℕ) (qs : List Event) (t : ℕ) → p < length lists → p < length row
    → ((i : ℕ) → i < 16 → IsLeastTime (get_or lists i []) (get_or row i 0)) → IsLeastTime qs t
    → (i : ℕ) → i < 16 → IsLeastTime (get_or (set lists p qs) i []) (get_or (set row p t) i 0)
least_set lists row p qs t l m old new i within = grind (arith, cases_eq, set, get_or-set_same, get_or-set_other)

-- an event is looked for in its bucket
module _ (a : Inside) (v : AreFar a) (p : ℕ) (e : Event) (at : p ≡ bucket_of e) where
  own : times event_same e (together a.buckets) ≡ times event_same e (get_or a.buckets p [])
  own = times-placed bucket_of a.buckets v.placed e ∙ ap (λ i. times event_same e (get_or a.buckets i [])) (sym at)

  pub far_found : times event_same e (get_or a.buckets p []) ≡ times event_same e (in_order event_before (together a.buckets))
  far_found = sym own ∙ sym (times-in_order event_before event_same event_law e (together a.buckets))

module _ (a : Inside) (v : AreFar a) (p : ℕ) (within : p < 16) (qs : List Event) where
  inside : p < length a.buckets
  inside = let n = v.number in omega arith

  in_row : p < length a.least_times
  in_row = let n = v.times_number in omega arith

  -- an event goes into its bucket
  module _ (e : Event) (at : p ≡ bucket_of e) (early : e.time < never) (more : qs ≡ get_or a.buckets p [] ++ e ∷ []) where
    counts : (d : Event) → times event_same d qs ≡ one event_same d e + times event_same d (get_or a.buckets p [])
    counts d = ap (times event_same d) more ∙ times-push d e (get_or a.buckets p [])

    all_counts : (d : Event) → times event_same d (together (set a.buckets p qs)) ≡ one event_same d e + times event_same d (together a.buckets)
    all_counts d = grind (arith, counts, times-set, inside)

    pub far_put : (t s : ℕ) → t ≡ min (get_or a.least_times p 0) e.time → s ≡ min a.soonest e.time
        → AreFar (record { soonest = s; least_times = set a.least_times p t; buckets = set a.buckets p qs })
    far_put t s t_is s_is = record {
      number = length-set a.buckets p qs ∙ v.number;
      times_number = length-set a.least_times p t ∙ v.times_number;
      placed = subst (λ i. (j : ℕ) (d : Event) → 0 < times event_same d (get_or (set a.buckets i qs) j []) → bucket_of d ≡ j) (sym at)
          (placed_inserted bucket_of a.buckets v.placed e (subst (λ i. i < length a.buckets) at inside) qs (λ d. counts d ∙ ap (λ i. one event_same d e + times event_same d (get_or a.buckets i [])) at));
      early = λ d there.
          let n = all_counts d in
          elim (one_cases event_before event_same event_law d e) [
            | inl z ↦ v.early d (omega arith)
            | inr q ↦ subst (λ x. x.time < never) (sym q) early
          ];
      least = least_set a.buckets a.least_times p qs t inside in_row v.least (least_put (get_or a.buckets p []) qs (get_or a.least_times p 0) t e (v.least p within) early counts t_is);
      soonest = least_put (together a.buckets) (together (set a.buckets p qs)) a.soonest s e v.soonest early all_counts s_is;
    }

    pub far_put_order : in_order event_before (together (set a.buckets p qs)) ≡ insert event_before e (in_order event_before (together a.buckets))
    far_put_order =
        in_order-inserted event_before event_same event_law (together a.buckets) (together (set a.buckets p qs)) (get_or a.buckets p []) qs (times-set p qs a.buckets inside) e counts

  -- events go out of a bucket
  module _ (less : (d : Event) → times event_same d qs ≤ times event_same d (get_or a.buckets p [])) where
    all_less : (d : Event) → times event_same d (together (set a.buckets p qs)) ≤ times event_same d (together a.buckets)
    all_less d = grind (arith, times-set, inside)

    pub far_cut : (t s : ℕ) → IsLeastTime qs t → ((i : ℕ) → i < 16 → s ≤ get_or (set a.least_times p t) i 0) → (i : ℕ) × (i < 16) × (get_or (set a.least_times p t) i 0 ≡ s)
        → AreFar (record { soonest = s; least_times = set a.least_times p t; buckets = set a.buckets p qs })
    far_cut t s new low reached =
        let placed = placed-set bucket_of a.buckets p qs inside v.placed (λ d there. let n = less d in v.placed p d (omega arith)) in
        let early : (d : Event) → 0 < times event_same d (together (set a.buckets p qs)) → d.time < never = λ d there. let n = all_less d in v.early d (omega arith) in
        let least = least_set a.buckets a.least_times p qs t inside in_row v.least new in
        record {
          number = length-set a.buckets p qs ∙ v.number;
          times_number = length-set a.least_times p t ∙ v.times_number;
          placed = placed;
          early = early;
          least = least;
          soonest = least_of_lists bucket_of (set a.buckets p qs) placed few early (set a.least_times p t) least s low reached;
        }

  -- one event goes out of its bucket, if it is there
  module _ (e : Event) (at : p ≡ bucket_of e) (less : qs ≡ take_out event_same e (get_or a.buckets p [])) where
    pub one_less : (d : Event) → times event_same d qs ≤ times event_same d (get_or a.buckets p [])
    one_less d = grind (arith, times-take_out-le)

    pub far_taken : in_order event_before (together (set a.buckets p qs)) ≡ take_out event_same e (in_order event_before (together a.buckets))
    far_taken =
        in_order-taken event_before event_same event_law (together a.buckets) (together (set a.buckets p qs)) (get_or a.buckets p []) qs (times-set p qs a.buckets inside) e (own a v p e at) less

  -- those at the least time go out of their bucket
  module _ (at : p ≡ a.soonest / 64 % 16) (left : (d : Event) → times event_same d qs ≡ times event_same d (filter (λ x. not (x.time == a.soonest)) (get_or a.buckets p []))) where
    pub tick_less : (d : Event) → times event_same d qs ≤ times event_same d (get_or a.buckets p [])
    tick_less d = grind (arith, cases_Bool, not, times-filter_yes, times-filter_no)

    -- near are those at the least time
    module _ (near : List Event) (near_is : (d : Event) → times event_same d near ≡ times event_same d (filter (λ x. x.time == a.soonest) (get_or a.buckets p []))) where
      split : (d : Event) → times event_same d near + times event_same d qs ≡ times event_same d (get_or a.buckets p [])
      split d = grind (arith, cases_Bool, times-filter_yes, times-filter_no, not)

      pub tick_moved : (d : Event) → times event_same d near + times event_same d (in_order event_before (together (set a.buckets p qs))) ≡ times event_same d (in_order event_before (together a.buckets))
      tick_moved d = grind (arith, split, times-set, inside, times-in_order, event_law, set)

      at_soonest : (d : Event) → 0 < times event_same d near → d.time ≡ a.soonest
      at_soonest d there = grind (arith, cases_Bool, eqb-true, times-filter_no)

      after_soonest : (d : Event) → 0 < times event_same d (together (set a.buckets p qs)) → a.soonest < d.time
      after_soonest d there = grind (arith, all_less, tick_less, cases_eq, times-set, inside, own, times-placed, times-filter_no, not, same_time)

      pub tick_apart : AreNearFirst near (in_order event_before (together (set a.buckets p qs)))
      tick_apart d e h k = grind (arith, at_soonest, times-in_order, event_law, set, after_soonest)

-- no event is at the last tick
pub far_none : (a : Inside) → AreFar a → a.soonest ≡ never → in_order event_before (together a.buckets) ≡ []
unfolding in_order
far_none a v last =
    let z : together a.buckets ≡ [] =
    nothing (together a.buckets) (λ e.
    none (times event_same e (together a.buckets)) (λ there.
    let l = v.early e there in
    let b = v.soonest.bound e there in
    omega arith)) in
    rw z refl

-- the least of several lists, one after another
pub least_with-append : (o : Option Event) (xs ys : List Event) → least_with o (xs ++ ys) ≡ least_with (least_with o xs) ys
least_with-append o [] ys = refl
least_with-append o (x ∷ xs) ys = least_with-append (Some (earlier x o)) xs ys

-- the buckets of no events
module _ (lists : List (List Event)) (row : List ℕ) (number : length lists ≡ 16) (long : length row ≡ 16) (empty : (i : ℕ) → i < length lists → get_or lists i [] ≡ [])
    (nevers : (i : ℕ) → i < 16 → get_or row i 0 ≡ never) where
  none_least : (xs : List Event) (t : ℕ) → xs ≡ [] → t ≡ never → IsLeastTime xs t
  none_least xs t z t_is = grind arith

  pub no_far : AreFar (record { soonest = never; least_times = row; buckets = lists })
  no_far = record {
    number = number;
    times_number = long;
    placed = none_placed lists empty bucket_of;
    early = λ e there. let z = ap (times event_same e) (together_none lists empty) in absurd (omega arith);
    least = λ i l. none_least (get_or lists i []) (get_or row i 0) (empty i (omega arith)) (nevers i l);
    soonest = none_least (together lists) never (together_none lists empty) refl;
  }

-- the events in buckets, put at the end of a list
pub appended : (r : Result Unit AllocError) (new old lists now : List Event) → in_order event_before lists ≡ now
    → OnOk r ((e : Event) → times event_same e new ≡ times event_same e lists + times event_same e old) → OnOk r ((e : Event) → times event_same e new ≡ times event_same e now + times event_same e old)
appended (Ok u) new old lists now is h = λ e. grind (arith, times-in_order, event_law)
appended (Err x) new old lists now is h = tt
