-- A turn of a wheel: what stands in its buckets, and which of them comes first.
use Rattle.std.proofs.Common.{◌≡◌, ◌≢◌, ◌≤◌, ◌<◌, ◌+◌, ◌-◌, ◌%◌, ◌++◌, ◌⊎◌, ℕ, true, Option, Some, None, List, [], ◌∷◌}
use Rattle.std.proofs.Common.{length, get_or, set, slice_get, refl, ap, sym, ◌∙◌, subst, inl, inr, arith, get_or-set_same, get_or-set_other, length-set}
use Rattle.std.specs.List.{All}
use Rattle.std.proofs.lemmas.Bool.{cases_Bool, cases_eq, cases_lt}
use Rattle.std.proofs.lemmas.List.{get_or_read}
use Rattle.std.proofs.lemmas.List.Elements.{All-get_or}
use Rattle.tw_event.specs.declared.event.Event.{Event}
use Rattle.tw_event.specs.Order.{event_before, event_same}
use Rattle.tw_sim.specs.Ordered.{insert, one, take_out, times}
use Rattle.tw_sim.proofs.Counts.{none}
use Rattle.tw_sim.proofs.Ordered.{one_cases, one_self}
use Rattle.tw_ordered.specs.Buckets.{together}
use Rattle.tw_ordered.specs.InOrder.{in_order, least_with}
use Rattle.tw_calendar.specs.Turn.{IsFirstMark, IsTurn, mark_at}
use Rattle.tw_ordered.proofs.Ordered.{cases_zero, in_order-times}
use Rattle.tw_ordered.proofs.Events.{event_law, first_of_least, least_first, least_is, none_first, nothing}
use Rattle.tw_ordered.proofs.Lists.{none_placed, placed-set, times-append, times-placed, times-push, times-set, times-take_out-le, together_none}

pub some_of : (e : Event) (xs : List Event) → 0 < times event_same e xs → 0 < length xs
some_of e [] h = absurd (omega arith)
some_of e (x ∷ xs) h = omega arith

module _ (key : Event → ℕ) (base : ℕ) (marks : List ℕ) (lists : List (List Event)) (t : IsTurn key base marks lists) where
  pub in_slot : (e : Event) → 0 < times event_same e (together lists) → 0 < times event_same e (get_or lists (key e % 1024) [])
  in_slot e there = subst (λ n. 0 < n) (times-placed (λ d. key d % 1024) lists t.placed e) there

  pub out_slot : (i : ℕ) (e : Event) → 0 < times event_same e (get_or lists i []) → 0 < times event_same e (together lists)
  out_slot i e there =
      let at : key e % 1024 ≡ i = t.placed i e there in
      let own : 0 < times event_same e (get_or lists (key e % 1024) []) = subst (λ k. 0 < times event_same e (get_or lists k [])) (sym at) there in
      subst (λ n. 0 < n) (sym (times-placed (λ d. key d % 1024) lists t.placed e)) own

  -- the events of a bucket have one key
  pub one_key : (i : ℕ) (d e : Event) → 0 < times event_same d (get_or lists i []) → 0 < times event_same e (get_or lists i []) → key d ≡ key e
  one_key i d e h k =
      let a = t.placed i d h in
      let b = t.placed i e k in
      let l = t.after d (out_slot i d h) in
      let m = t.near d (out_slot i d h) in
      let n = t.after e (out_slot i e k) in
      let o = t.near e (out_slot i e k) in
      omega arith

  -- the first place that is marked
  module _ (p : ℕ) (f : IsFirstMark marks base p) where
    pub place_within : p < 1024
    place_within = let a = f.at in omega arith

    steps_least : (e : Event) → 0 < times event_same e (together lists) → base + 1 + f.steps ≤ key e
    steps_least e there =
        let a = t.after e there in
        let b = t.near e there in
        elim (cases_lt (key e - (base + 1)) f.steps) [
          | inl l ↦
              let z = f.clear (key e - (base + 1)) l (omega arith) in
              let m = t.marked (key e % 1024) (omega arith) (some_of e (get_or lists (key e % 1024) []) (in_slot e there)) in
              let q : (base + 1 + (key e - (base + 1))) % 1024 ≡ key e % 1024 = omega arith in
              let c : 0 ≡ 1 = sym z ∙ ap (mark_at marks) q ∙ m in
              absurd (omega (arith, c))
          | inr l ↦ omega arith
        ]

    first_key : (e : Event) → 0 < times event_same e (get_or lists p []) → key e ≡ base + 1 + f.steps
    first_key e there =
        let own = out_slot p e there in
        let a = t.placed p e there in
        let at = f.at in
        let l = steps_least e own in
        let m = t.near e own in
        omega arith

    -- no event has a lesser key than those of the first bucket
    pub first_least : (d e : Event) → 0 < times event_same d (get_or lists p []) → 0 < times event_same e (together lists) → key d ≤ key e
    first_least d e h k =
        let a = first_key d h in
        let b = steps_least e k in
        omega arith

    -- an event with the first key is in the first bucket
    pub first_slot : (d e : Event) → 0 < times event_same d (get_or lists p []) → 0 < times event_same e (together lists) → key e ≤ key d
        → 0 < times event_same e (get_or lists p [])
    first_slot d e h k l =
        let least = first_least d e h k in
        let at : key e % 1024 ≡ p = ap (λ n. n % 1024) (let q : key e ≡ key d = omega arith in q) ∙ t.placed p d h in
        subst (λ i. 0 < times event_same e (get_or lists i [])) at (in_slot e k)

    -- where the first bucket is empty, all are
    pub none_marked : get_or lists p [] ≡ [] → together lists ≡ []
    none_marked h =
        nothing (together lists) (λ e.
        none (times event_same e (together lists)) (λ there.
        let l = steps_least e there in
        let m = t.near e there in
        let own = f.marked (omega arith) in
        let z = t.clear p place_within h in
        let c : 0 ≡ 1 = sym z ∙ own in
        absurd (omega (arith, c))))

    -- the least event of the first bucket is the least of all, where keys rise with events
    module _ (rise : (d e : Event) → event_before d e ≡ true → key d ≤ key e) where
      pub first_all : (o : Option Event) → slice_get (in_order event_before (get_or lists p [])) 0 ≡ o → slice_get (in_order event_before (together lists)) 0 ≡ o
      unfolding in_order
      first_all None h =
          let empty = nothing (get_or lists p []) (none_first (get_or lists p []) h) in
          rw (none_marked empty) refl
      first_all (Some m) h =
          let l = least_is m (get_or lists p []) h in
          first_of_least m (together lists) (record {
            there = out_slot p m l.there;
            first = λ x there.
                elim (cases_Bool (event_before x m)) [
                  | inl b ↦ l.first x (first_slot m x l.there there (rise x m b))
                  | inr b ↦ b
                ];
          })

      pub least_all : least_with None (get_or lists p []) ≡ slice_get (in_order event_before (together lists)) 0
      least_all = least_first (get_or lists p []) ∙ sym (first_all _ refl)

  -- a later base, before all events
  pub turn_base : (later : ℕ) → base ≤ later → ((e : Event) → 0 < times event_same e (together lists) → later < key e) → IsTurn key later marks lists
  turn_base later l h = record {
    number = t.number;
    placed = t.placed;
    after = h;
    near = λ e there. let n = t.near e there in omega arith;
    marked = t.marked;
    clear = t.clear;
  }

  -- one bucket becomes another
  module _ (p : ℕ) (within : p < 1024) (qs : List Event) (new : List ℕ)
      (own : (e : Event) → 0 < times event_same e qs → (key e % 1024 ≡ p) × (base < key e) × (key e ≤ base + 1024))
      (mark : 0 < length qs → mark_at new p ≡ 1) (unmark : qs ≡ [] → mark_at new p ≡ 0) (others : (i : ℕ) → i < 1024 → i ≢ p → mark_at new i ≡ mark_at marks i) where
    there : p < length lists
    there = let n = t.number in omega arith

    here : get_or (set lists p qs) p [] ≡ qs
    here = get_or-set_same lists p qs [] there

    from : (e : Event) → 0 < times event_same e (together (set lists p qs)) → (0 < times event_same e (together lists)) ⊎ (0 < times event_same e qs)
    from e h =
        let c = times-set p qs lists there e in
        elim (cases_zero (times event_same e qs)) [
          | inl z ↦ inl (omega arith)
          | inr l ↦ inr l
        ]

    pub turn_set : IsTurn key base new (set lists p qs)
    turn_set = record {
      number = length-set lists p qs ∙ t.number;
      placed = placed-set (λ e. key e % 1024) lists p qs there t.placed (λ e h. (own e h).0);
      after = λ e h. elim (from e h) [ inl l ↦ t.after e l | inr l ↦ (own e l).1 ];
      near = λ e h. elim (from e h) [ inl l ↦ t.near e l | inr l ↦ (own e l).2 ];
      marked = λ i l h.
          elim (cases_eq i p) [
            | inl q ↦ ap (mark_at new) q ∙ mark (subst (λ xs. 0 < length xs) (ap (λ j. get_or (set lists p qs) j []) q ∙ here) h)
            | inr q ↦ others i l q ∙ t.marked i l (subst (λ xs. 0 < length xs) (get_or-set_other lists p i qs [] q) h)
          ];
      clear = λ i l h.
          elim (cases_eq i p) [
            | inl q ↦ ap (mark_at new) q ∙ unmark (sym (ap (λ j. get_or (set lists p qs) j []) q ∙ here) ∙ h)
            | inr q ↦ others i l q ∙ t.clear i l (sym (get_or-set_other lists p i qs [] q) ∙ h)
          ];
    }

  -- an event goes into its bucket
  module _ (e : Event) (p : ℕ) (p_is : p ≡ key e % 1024) (after : base < key e) (near : key e ≤ base + 1024) (qs : List Event) (more : qs ≡ get_or lists p [] ++ e ∷ []) (new : List ℕ)
      (mark : mark_at new p ≡ 1) (others : (i : ℕ) → i < 1024 → i ≢ p → mark_at new i ≡ mark_at marks i) where
    counts : (d : Event) → times event_same d qs ≡ one event_same d e + times event_same d (get_or lists p [])
    counts d = ap (times event_same d) more ∙ times-push d e (get_or lists p [])

    pub turn_put : IsTurn key base new (set lists p qs)
    turn_put =
        turn_set p (omega arith) qs new (λ d h.
        let n = counts d in
        elim (one_cases event_before event_same event_law d e) [
          | inl z ↦ (let l : 0 < times event_same d (get_or lists p []) = omega arith in (t.placed p d l, t.after d (out_slot p d l), t.near d (out_slot p d l)))
          | inr q ↦ subst (λ x. (key x % 1024 ≡ p) × (base < key x) × (key x ≤ base + 1024)) (sym q) (sym p_is, after, near)
        ]) (λ l. mark) (λ z.
        let n = counts e in
        let k = ap (times event_same e) z in
        let o = one_self event_before event_same event_law e in
        absurd (omega arith)) others

    pub order_put : (hand : List Event) → in_order event_before (hand ++ together (set lists p qs)) ≡ insert event_before e (in_order event_before (hand ++ together lists))
    unfolding in_order
    order_put hand =
        in_order-times event_before event_same event_law (hand ++ together (set lists p qs)) (e ∷ hand ++ together lists) (λ d.
        let n = counts d in
        let number = t.number in
        let s = times-set p qs lists (omega arith) d in
        let a = times-append d hand (together lists) in
        let b = times-append d hand (together (set lists p qs)) in
        omega arith)

  -- a bucket is emptied
  module _ (p : ℕ) (within : p < 1024) (new : List ℕ) (unmark : mark_at new p ≡ 0) (others : (i : ℕ) → i < 1024 → i ≢ p → mark_at new i ≡ mark_at marks i) where
    pub turn_emptied : IsTurn key base new (set lists p [])
    turn_emptied = turn_set p within [] new (λ e h. absurd (omega arith)) (λ l. absurd (omega arith)) (λ z. unmark) others

  -- a bucket has less
  module _ (p : ℕ) (within : p < 1024) (less : List Event) (fewer : (e : Event) → times event_same e less ≤ times event_same e (get_or lists p [])) where
    pub turn_less : (new : List ℕ) → (0 < length less → mark_at new p ≡ 1) → (less ≡ [] → mark_at new p ≡ 0) → ((i : ℕ) → i < 1024 → i ≢ p → mark_at new i ≡ mark_at marks i)
        → IsTurn key base new (set lists p less)
    turn_less new mark unmark others =
        turn_set p within less new (λ e there.
        let l = fewer e in
        let old : 0 < times event_same e (get_or lists p []) = omega arith in
        let out = out_slot p e old in
        (t.placed p e old, t.after e out, t.near e out)) mark unmark others

  -- an event is taken out of its bucket
  module _ (e : Event) (p : ℕ) (p_is : p ≡ key e % 1024) (bucket : List Event) (is : bucket ≡ get_or lists p bucket) (less : List Event) (less_is : less ≡ take_out event_same e bucket) where
    pub own_bucket : bucket ≡ get_or lists p []
    own_bucket =
        let n = t.number in
        get_or_read lists p bucket (omega arith) is []

    pub taken_is : less ≡ take_out event_same e (get_or lists p [])
    taken_is = less_is ∙ ap (take_out event_same e) own_bucket

    pub placed_count : times event_same e (together lists) ≡ times event_same e bucket
    placed_count =
        times-placed (λ d. key d % 1024) lists t.placed e ∙ ap (λ i. times event_same e (get_or lists i [])) (sym p_is) ∙ ap (times event_same e) (sym own_bucket)

    pub cut_counts : (d : Event) → times event_same d (together (set lists p less)) + times event_same d bucket ≡ times event_same d (together lists) + times event_same d less
    cut_counts d =
        let n = t.number in
        let s = times-set p less lists (omega arith) d in
        let o = ap (times event_same d) own_bucket in
        omega arith

    pub turn_taken : (new : List ℕ) → (0 < length less → mark_at new p ≡ 1) → (less ≡ [] → mark_at new p ≡ 0) → ((i : ℕ) → i < 1024 → i ≢ p → mark_at new i ≡ mark_at marks i)
        → IsTurn key base new (set lists p less)
    turn_taken new mark unmark others =
        turn_set p (omega arith) less new (λ d h.
        let c = ap (times event_same d) taken_is in
        let l = times-take_out-le d e (get_or lists p []) in
        let old : 0 < times event_same d (get_or lists p []) = omega arith in
        let out = out_slot p d old in
        (t.placed p d old, t.after d out, t.near d out)) mark unmark others

-- no events
pub no_turn : (key : Event → ℕ) (base : ℕ) (marks : List ℕ) (lists : List (List Event)) → ((i : ℕ) → mark_at marks i ≡ 0) → length lists ≡ 1024
    → ((i : ℕ) → i < length lists → get_or lists i [] ≡ []) → IsTurn key base marks lists
no_turn key base marks lists unmarked number empty = record {
  number = number;
  placed = none_placed lists empty (λ e. key e % 1024);
  after = λ e there. let z = ap (times event_same e) (together_none lists empty) in absurd (omega arith);
  near = λ e there. let z = ap (times event_same e) (together_none lists empty) in absurd (omega arith);
  marked = λ i l h. let z = ap length (empty i (omega arith)) in absurd (omega arith);
  clear = λ i l h. unmarked i;
}

-- where all are empty, each is
pub each_empty : (lists : List (List Event)) → All (λ events. events ≡ []) lists → (i : ℕ) → i < length lists → get_or lists i [] ≡ []
each_empty lists h i l = All-get_or (λ events. events ≡ []) lists i [] l h
