-- What a timeline lets go is the one-thread run's.
use Rattle.std.proofs.Common.{◌≡◌, ◌⊎◌, ℕ, suc, ◌+◌, ◌<◌, ◌≤◌, Bool, not, true, false, List, [], ◌∷◌, ◌++◌, refl, ap, ap₂, sym, ◌∙◌, subst, inl, inr, arith, nat_lt, if◌then◌else◌}
use Rattle.std.proofs.Common.{append_assoc, drop, filter, length, reverse, take}
use Rattle.std.proofs.lemmas.Bool.{cases_Bool, le-ltb, lt-ltb, ltb-false}
use Rattle.std.proofs.lemmas.List.{append-nil, map-append, reverse-append}
use Rattle.std.proofs.lemmas.List.Elements.{filter-append}
use Rattle.std.specs.List.{AllByRecursion, prefix_len}
use Rattle.tw_core.proofs.Counts.{none_there}
use Rattle.tw_event.specs.declared.event.Event.{Event}
use Rattle.tw_model.proofs.Lawful.{lawful, numbered}
use Rattle.tw_model.specs.Case.{Case, IsCase, simulation}
use Rattle.tw_shard.proofs.Commits.{all_pass, past_early, past_events, same_history}
use Rattle.tw_shard.specs.declared.timeline.HandledEvent.{HandledEvent}
use Rattle.tw_shard.specs.Commit.{not_before}
use Rattle.tw_shard.specs.Past.{own_run}
use Rattle.tw_shard.specs.Timeline.{events_of}
use Rattle.tw_sim.proofs.Closed.{log_closed}
use Rattle.tw_sim.proofs.Counts.{none, one_self, times-append}
use Rattle.tw_sim.specs.Seq.{log}
use Rattle.tw_sim.specs.Simulation.{IsFalling, below, only, times}

-- nothing is before the first tick
pub run_none : (case : Case) → IsCase case → (r : ℕ) → own_run case r 0 ≡ []
run_none case is r =
    let m = simulation case in
    let law = lawful case is in
    let closed = log_closed m law (numbered case is) 0 in
    ap (only m r) (none_there m law (log m 0) (λ e. none (times m e (log m 0)) (λ h. (let soon = ((closed.exact e).0 h).0 in absurd (omega arith)))))

-- nothing is committed at first
pub none_past : (case : Case) → IsCase case → (r : ℕ) (retains : Bool) (items : List Event) → items ≡ [] → (if retains then reverse items else own_run case r 0) ≡ []
none_past case is r retains items none =
    elim (cases_Bool retains) [
      | inl stays ↦ rw stays (ap reverse none)
      | inr goes ↦ rw goes (run_none case is r)
    ]

-- the first steps end where one is not before a time
abbrev StopsAt : ℕ → List HandledEvent → Type 0
StopsAt time steps = (steps ≡ []) ⊎ ((d : HandledEvent) × (more : List HandledEvent) × (steps ≡ d ∷ more) × (time ≤ d.event.time))

stops_at : (time : ℕ) (steps : List HandledEvent) → StopsAt time (drop (prefix_len (λ d. nat_lt d.event.time time) steps) steps)
stops_at time [] = inl refl
stops_at time (d ∷ steps) =
    elim (cases_Bool (nat_lt d.event.time time)) [
      | inl early ↦ rw early
          (let n = prefix_len (λ (d : HandledEvent). nat_lt d.event.time time) steps in
          let more : suc n ≡ 1 + n = omega arith in
          subst (λ k. StopsAt time (drop k (d ∷ steps))) more (stops_at time steps))
      | inr late ↦ rw late (inr (d, steps, refl, ltb-false d.event.time time late))
    ]

-- the events of steps, the oldest of which is d
oldest_last : (d : HandledEvent) (steps : List HandledEvent) → events_of (reverse (d ∷ steps)) ≡ events_of (reverse steps) ++ d.event ∷ []
oldest_last d steps = ap events_of (reverse-append (d ∷ []) steps) ∙ map-append (λ (d : HandledEvent). d.event) (reverse steps) (d ∷ [])

-- where no element passes a test, all pass the contrary
all_others : {X : Type 0} (test : X → Bool) (xs : List X) → filter test xs ≡ [] → filter (λ x. not (test x)) xs ≡ xs
all_others test [] none = refl
all_others test (x ∷ xs) none =
    elim (cases_Bool (test x)) [
      | inl passes ↦ (let some : x ∷ filter test xs ≡ [] = rw passes at none in let count = ap length some in absurd (omega arith))
      | inr fails ↦ rw fails (ap (λ ys. x ∷ ys) (all_others test xs (rw fails at none)))
    ]

-- of events before a time none is left
none_left : (time : ℕ) (events : List Event) → AllByRecursion (λ e. e.time < time) events → not_before time events ≡ []
none_left time [] early = refl
none_left time (e ∷ events) early = rw (lt-ltb e.time time early.0) (none_left time events early.1)

module _ (case : Case) (is : IsCase case) (time : ℕ) where
  -- what stands in front of an event that is not before a time is not before it either
  late_front : (newer older : List Event) (e : Event) → IsFalling (simulation case) (newer ++ e ∷ older) → time ≤ e.time → below (simulation case) time (newer ++ e ∷ []) ≡ []
  late_front [] older e falling late = rw (le-ltb e.time time late) refl
  late_front (x ∷ newer) older e falling late =
      let m = simulation case in
      let law = lawful case is in
      let there : 0 < times m e (newer ++ e ∷ older) = (let count = times-append m e newer (e ∷ older) in let self = one_self m law e in omega arith) in
      let no_later : e.time ≤ x.time = law.timely e x (falling.0 e there) in
      rw (le-ltb x.time time (omega arith)) (late_front newer older e falling.1 late)

  none_early : (steps : List HandledEvent) (older : List Event) → StopsAt time steps → IsFalling (simulation case) (events_of (reverse steps) ++ older)
      → below (simulation case) time (events_of (reverse steps)) ≡ []
  none_early steps older (inl none) falling = ap (λ l. below (simulation case) time (events_of (reverse l))) none
  none_early steps older (inr at) falling =
      let m = simulation case in
      let newer = events_of (reverse at.1) in
      let split : events_of (reverse steps) ≡ newer ++ at.0.event ∷ [] = ap (λ l. events_of (reverse l)) at.2 ∙ oldest_last at.0 at.1 in
      let parted : IsFalling m (newer ++ at.0.event ∷ older) =
      subst (IsFalling m) (append_assoc newer (at.0.event ∷ []) older) (subst (λ l. IsFalling m (l ++ older)) split falling) in
      ap (below m time) split ∙ late_front newer older at.0.event parted at.3

  module _ (done n : ℕ) (past : List Event) (steps : List HandledEvent) (later : done ≤ time) (first : n ≡ prefix_len (λ d. nat_lt d.event.time time) steps)
      (early : AllByRecursion (λ e. e.time < done) past) (falling : IsFalling (simulation case) (events_of (reverse steps) ++ past)) where
    -- of the steps that stay none is before the bound
    none_before : below (simulation case) time (events_of (reverse (drop n steps))) ≡ []
    none_before =
        none_early (drop n steps) (events_of (reverse (take n steps)) ++ past) (subst (λ k. StopsAt time (drop k steps)) (sym first) (stops_at time steps))
        (subst (IsFalling (simulation case)) (sym (same_history n past steps)) falling)

    -- what becomes committed is all that is handled before the bound
    pub all_committed : below (simulation case) time (events_of (reverse steps) ++ past) ≡ events_of (reverse (take n steps)) ++ past
    all_committed =
        let newer = events_of (reverse (drop n steps)) in
        let older = events_of (reverse (take n steps)) ++ past in
        ap (below (simulation case) time) (sym (same_history n past steps))
        ∙ (filter-append (λ e. nat_lt e.time time) newer older
        ∙ ap₂ (λ xs ys. xs ++ ys) none_before (all_pass time older (past_early done time n past steps later first early)))

    -- and what stays is all that is not before the bound
    pub all_stay : not_before time (events_of (reverse steps) ++ past) ≡ events_of (reverse (drop n steps))
    all_stay =
        let newer = events_of (reverse (drop n steps)) in
        let older = events_of (reverse (take n steps)) ++ past in
        ap (not_before time) (sym (same_history n past steps))
        ∙ (filter-append (λ e. not (nat_lt e.time time)) newer older
        ∙ (ap₂ (λ xs ys. xs ++ ys) (all_others (λ e. nat_lt e.time time) newer none_before) (none_left time older (past_early done time n past steps later first early))
        ∙ append-nil newer))

-- ---- the committed events, and some more

-- where the newest are added to those that are kept, or else the run goes as far
pub added : (retains : Bool) (items more run further : List Event) (steps : List HandledEvent) → (retains ≡ true → more ≡ items ++ events_of steps)
    → (retains ≡ false → events_of (reverse steps) ++ (if retains then reverse items else run) ≡ further)
    → (if retains then reverse more else further) ≡ events_of (reverse steps) ++ (if retains then reverse items else run)
added retains items more run further steps kept gone =
    elim (cases_Bool retains) [
      | inl stays ↦ rw stays (ap reverse (kept stays) ∙ past_events items steps)
      | inr goes ↦ rw goes (sym (ap (λ (b : Bool). events_of (reverse steps) ++ (if b then reverse items else run)) (sym goes) ∙ gone goes))
    ]
