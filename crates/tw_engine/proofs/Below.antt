-- A commit of a history in order takes exactly the events below the bound.
use Rattle.std.proofs.Common.{◌≡◌, ◌⊎◌, ℕ, suc, ◌+◌, ◌<◌, ◌≤◌, Bool, not, List, [], ◌∷◌, ◌++◌, refl, ap, ap₂, sym, ◌∙◌, subst, inl, inr, arith, nat_lt}
use Rattle.std.proofs.Common.{append_assoc, append-nil, drop, filter, length, reverse, take}
use Rattle.std.proofs.lemmas.Bool.{cases_Bool, le-ltb, lt-ltb, ltb-false}
use Rattle.std.proofs.lemmas.List.{map-append, reverse-append}
use Rattle.std.proofs.lemmas.List.Elements.{filter-append}
use Rattle.std.specs.List.{AllByRecursion, prefix_len}
use Rattle.tw_engine.specs.Past.{events_of, not_before}
use Rattle.tw_engine.specs.declared.past.Done.{Done}
use Rattle.tw_engine.proofs.Commits.{past_early, same_history}
use Rattle.tw_sim.proofs.Counts.{one_self, times-append}
use Rattle.tw_sim.specs.Simulation.{Simulation, IsFalling, IsLawful, below, times}

-- where no element passes a test, all pass the contrary
all_others : {X : Type 0} (test : X → Bool) (xs : List X) → filter test xs ≡ [] → filter (λ x. not (test x)) xs ≡ xs
all_others test [] none = refl
all_others test (x ∷ xs) none =
    elim (cases_Bool (test x)) [
      | inl passes ↦ (let some : x ∷ filter test xs ≡ [] = rw passes at none in let count = ap length some in absurd (omega arith))
      | inr fails ↦ rw fails (ap (λ ys. x ∷ ys) (all_others test xs (rw fails at none)))
    ]

module _ {S E : Type 0} (m : Simulation S E) (law : IsLawful m) (time : ℕ) where
  all_pass : (events : List E) → AllByRecursion (λ e. m.time e < time) events → below m time events ≡ events
  all_pass [] h = refl
  all_pass (e ∷ events) h = rw (lt-ltb (m.time e) time h.0) (ap (λ l. e ∷ l) (all_pass events h.1))

  -- of events before a time none is left
  none_left : (events : List E) → AllByRecursion (λ e. m.time e < time) events → not_before m time events ≡ []
  none_left [] early = refl
  none_left (e ∷ events) early = rw (lt-ltb (m.time e) time early.0) (none_left events early.1)

  -- what stands in front of an event that is not before a time is not before it either
  late_front : (newer older : List E) (e : E) → IsFalling m (newer ++ e ∷ older) → time ≤ m.time e → below m time (newer ++ e ∷ []) ≡ []
  late_front [] older e falling late = rw (le-ltb (m.time e) time late) refl
  late_front (x ∷ newer) older e falling late =
      let there : 0 < times m e (newer ++ e ∷ older) = (let count = times-append m e newer (e ∷ older) in let self = one_self m law e in omega arith) in
      let no_later : m.time e ≤ m.time x = law.timely e x (falling.0 e there) in
      rw (le-ltb (m.time x) time (omega arith)) (late_front newer older e falling.1 late)

module _ {S E N : Type 0} (m : Simulation S E) (law : IsLawful m) (time : ℕ) where
  -- the first steps end where one is not before the time
  abbrev StopsAt : List (Done E N) → Type 0
  StopsAt steps = (steps ≡ []) ⊎ ((d : Done E N) × (more : List (Done E N)) × (steps ≡ d ∷ more) × (time ≤ m.time d.event))

  stops_at : (steps : List (Done E N)) → StopsAt (drop (prefix_len (λ d. nat_lt (m.time d.event) time) steps) steps)
  stops_at [] = inl refl
  stops_at (d ∷ steps) =
      elim (cases_Bool (nat_lt (m.time d.event) time)) [
        | inl early ↦ rw early
            (let n = prefix_len (λ (d : Done E N). nat_lt (m.time d.event) time) steps in
            let more : suc n ≡ 1 + n = omega arith in
            subst (λ k. StopsAt (drop k (d ∷ steps))) more (stops_at steps))
        | inr late ↦ rw late (inr (d, steps, refl, ltb-false (m.time d.event) time late))
      ]

  -- the events of steps, the oldest of which is d
  oldest_last : (d : Done E N) (steps : List (Done E N)) → events_of (reverse (d ∷ steps)) ≡ events_of (reverse steps) ++ d.event ∷ []
  oldest_last d steps = ap events_of (reverse-append (d ∷ []) steps) ∙ map-append (λ (d : Done E N). d.event) (reverse steps) (d ∷ [])

  none_early : (steps : List (Done E N)) (older : List E) → StopsAt steps → IsFalling m (events_of (reverse steps) ++ older) → below m time (events_of (reverse steps)) ≡ []
  none_early steps older (inl none) falling = ap (λ l. below m time (events_of (reverse l))) none
  none_early steps older (inr at) falling =
      let newer = events_of (reverse at.1) in
      let split : events_of (reverse steps) ≡ newer ++ at.0.event ∷ [] = ap (λ l. events_of (reverse l)) at.2 ∙ oldest_last at.0 at.1 in
      let parted : IsFalling m (newer ++ at.0.event ∷ older) =
      subst (IsFalling m) (append_assoc newer (at.0.event ∷ []) older) (subst (λ l. IsFalling m (l ++ older)) split falling) in
      ap (below m time) split ∙ late_front m law time newer older at.0.event parted at.3

  module _ (done n : ℕ) (past : List E) (steps : List (Done E N)) (later : done ≤ time) (first : n ≡ prefix_len (λ d. nat_lt (m.time d.event) time) steps)
      (early : AllByRecursion (λ e. m.time e < done) past) (falling : IsFalling m (events_of (reverse steps) ++ past)) where
    -- of the steps that stay none is before the bound
    none_before : below m time (events_of (reverse (drop n steps))) ≡ []
    none_before =
        none_early (drop n steps) (events_of (reverse (take n steps)) ++ past) (subst (λ k. StopsAt (drop k steps)) (sym first) (stops_at steps))
        (subst (IsFalling m) (sym (same_history n past steps)) falling)

    -- what becomes committed is all that is handled before the bound
    pub all_committed : below m time (events_of (reverse steps) ++ past) ≡ events_of (reverse (take n steps)) ++ past
    all_committed =
        let newer = events_of (reverse (drop n steps)) in
        let older = events_of (reverse (take n steps)) ++ past in
        ap (below m time) (sym (same_history n past steps))
        ∙ (filter-append (λ e. nat_lt (m.time e) time) newer older
        ∙ ap₂ (λ xs ys. xs ++ ys) none_before (all_pass m law time older (past_early m done time n past steps later first early)))

    -- and what stays is all that is not before the bound
    pub all_stay : not_before m time (events_of (reverse steps) ++ past) ≡ events_of (reverse (drop n steps))
    all_stay =
        let newer = events_of (reverse (drop n steps)) in
        let older = events_of (reverse (take n steps)) ++ past in
        ap (not_before m time) (sym (same_history n past steps))
        ∙ (filter-append (λ e. not (nat_lt (m.time e) time)) newer older
        ∙ (ap₂ (λ xs ys. xs ++ ys) (all_others (λ e. nat_lt (m.time e) time) newer none_before) (none_left m law time older (past_early m done time n past steps later first early))
        ∙ append-nil newer))
