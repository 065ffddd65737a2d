-- What a commit leaves of a process.
use Rattle.std.proofs.Common.{◌≡◌, ℕ, suc, ◌+◌, ◌<◌, ◌≤◌, Bool, false, cond, List, [], ◌∷◌, ◌++◌, refl, ap, ap₂, sym, ◌∙◌, subst, inl, inr, arith, nat_lt}
use Rattle.std.proofs.Common.{append_assoc, drop, length, length-append, length-drop, reverse, take, take-append-drop}
use Rattle.std.specs.List.{AllByRecursion, list_any, prefix_len, suffix_len}
use Rattle.std.specs.declared.cmp.Ordering.{Ordering}
use Rattle.std.proofs.Math.Seq.{drop-append_seam, take-append_seam}
use Rattle.std.proofs.lemmas.Bool.{cases_Bool, eq-eqb, lt-ltb, ltb-true}
use Rattle.std.proofs.lemmas.List.{length-map, length-reverse, map-append, reverse-append, reverse-reverse}
use Rattle.std.proofs.lemmas.List.Folds.{prefix_len-append}
use Rattle.std.proofs.lemmas.List.Sums.{suffix_len-le-length}
use Rattle.tw_core.specs.Steps.{put, with_commit}
use Rattle.tw_core.proofs.Sums.{all_map}
use Rattle.tw_engine.specs.Past.{AreNoted, IsPast, count_left, events_of}
use Rattle.tw_engine.specs.Process.{Logical, committed_at, history, process_core}
use Rattle.tw_engine.specs.declared.past.Done.{Done}
use Rattle.tw_engine.proofs.Machine.{same_put, there}
use Rattle.tw_pending.specs.Order.{count, is_same}
use Rattle.tw_sim.specs.Simulation.{Simulation, state}

reverse-push : {A : Type 0} (xs : List A) (x : A) → reverse (xs ++ x ∷ []) ≡ x ∷ reverse xs
reverse-push xs x = reverse-append xs (x ∷ [])

all-append : {X : Type 0} (P : X → Type 0) (xs ys : List X) → AllByRecursion P xs → AllByRecursion P ys → AllByRecursion P (xs ++ ys)
all-append P [] ys h k = k
all-append P (x ∷ xs) ys h k = (h.0, all-append P xs ys h.1 k)

all-reverse : {X : Type 0} (P : X → Type 0) (xs : List X) → AllByRecursion P xs → AllByRecursion P (reverse xs)
all-reverse P [] h = tt
all-reverse P (x ∷ xs) h = subst (AllByRecursion P) (sym (reverse-append (x ∷ []) xs)) (all-append P (reverse xs) (x ∷ []) (all-reverse P xs h.1) (h.0, tt))

count-append : {E : Type 0} (cmp : E → E → Ordering) (e : E) (xs ys : List E) → count cmp e (xs ++ ys) ≡ count cmp e xs + count cmp e ys
count-append cmp e [] ys = omega arith
count-append cmp e (x ∷ xs) ys = let h = count-append cmp e xs ys in omega arith

module _ {E N : Type 0} where
  -- the events of steps, in the other order
  events-reverse : (steps : List (Done E N)) → reverse (events_of (reverse steps)) ≡ events_of steps
  events-reverse [] = refl
  events-reverse (d ∷ steps) =
      ap (λ l. reverse (events_of l)) (reverse-append (d ∷ []) steps)
      ∙ (ap reverse (map-append (λ (d : Done E N). d.event) (reverse steps) (d ∷ []))
      ∙ (reverse-push (events_of (reverse steps)) d.event ∙ ap (λ l. d.event ∷ l) (events-reverse steps)))

  -- the steps, the newest first, in two parts
  parted : (n : ℕ) (steps : List (Done E N)) → reverse steps ≡ reverse (drop n steps) ++ reverse (take n steps)
  parted n steps = ap reverse (sym (take-append-drop n steps)) ∙ reverse-append (take n steps) (drop n steps)

  -- and their events
  events_parted : (n : ℕ) (steps : List (Done E N)) → events_of (reverse steps) ≡ events_of (reverse (drop n steps)) ++ events_of (reverse (take n steps))
  events_parted n steps = ap events_of (parted n steps) ∙ map-append (λ (d : Done E N). d.event) (reverse (drop n steps)) (reverse (take n steps))

  prefix-events : (p : E → Bool) (steps : List (Done E N)) → prefix_len p (events_of steps) ≡ prefix_len (λ d. p d.event) steps
  prefix-events p [] = refl
  prefix-events p (d ∷ steps) = ap (λ n. cond (p d.event) (1 + n) 0) (prefix-events p steps)

  length-events : (steps : List (Done E N)) → length (events_of (reverse steps)) ≡ length steps
  length-events steps = length-map (reverse steps) (λ d. d.event) ∙ length-reverse steps

  -- the committed events, the newest first
  pub past_events : (past : List E) (steps : List (Done E N)) → reverse (past ++ events_of steps) ≡ events_of (reverse steps) ++ reverse past
  past_events past steps =
      reverse-append past (events_of steps)
      ∙ ap (λ l. l ++ reverse past) (ap reverse (sym (events-reverse steps)) ∙ reverse-reverse (events_of (reverse steps)))

  -- the history is the same
  pub same_history : (n : ℕ) (past : List E) (steps : List (Done E N)) → events_of (reverse (drop n steps)) ++ (events_of (reverse (take n steps)) ++ past) ≡ events_of (reverse steps) ++ past
  same_history n past steps =
      let newer = events_of (reverse (drop n steps)) in
      let older = events_of (reverse (take n steps)) in
      sym (append_assoc newer older past) ∙ ap (λ l. l ++ past) (sym (events_parted n steps))

  -- how often an event stands among steps does not depend on their order
  module _ (cmp : E → E → Ordering) (e : E) where
    count-events : (steps : List (Done E N)) → count cmp e (events_of (reverse steps)) ≡ count cmp e (events_of steps)
    count-events [] = refl
    count-events (d ∷ steps) =
        let first = count-append cmp e (events_of (reverse steps)) (d.event ∷ []) in
        let split : events_of (reverse (d ∷ steps)) ≡ events_of (reverse steps) ++ d.event ∷ [] = ap events_of (reverse-append (d ∷ []) steps) ∙ map-append (λ (d : Done E N). d.event) (reverse steps) (d ∷ []) in
        let same = ap (count cmp e) split in
        let h = count-events steps in
        omega arith

    any_event : (steps : List (Done E N)) → list_any (λ d. is_same cmp e d.event) steps ≡ nat_lt 0 (count cmp e (events_of steps))
    any_event [] = refl
    any_event (d ∷ steps) =
        elim (cases_Bool (is_same cmp e d.event)) [
          | inl same ↦ rw same (sym (lt-ltb 0 (1 + count cmp e (events_of steps)) (omega arith)))
          | inr other ↦ rw other (
              let n = count cmp e (events_of steps) in
              let none : n ≡ 0 + n = omega arith in any_event steps ∙ ap (nat_lt 0) none)
        ]

    -- whether one of them is of this event
    pub has_event : (steps : List (Done E N)) → list_any (λ d. is_same cmp e d.event) steps ≡ nat_lt 0 (count cmp e (events_of (reverse steps)))
    has_event steps = any_event steps ∙ ap (nat_lt 0) (sym (count-events steps))

module _ {S E N : Type 0} (m : Simulation S E) where
  -- how many are left, where the first n are all before a time
  left_is : (time n : ℕ) (steps : List (Done E N)) → n ≡ prefix_len (λ d. nat_lt (m.time d.event) time) steps
      → count_left m time (events_of (reverse steps)) ≡ length (events_of (reverse (drop n steps)))
  left_is time n steps is =
      let p = λ (e : E). nat_lt (m.time e) time in
      let counted : suffix_len p (events_of (reverse steps)) ≡ n = ap (prefix_len p) (events-reverse steps) ∙ (prefix-events p steps ∙ sym is) in
      let all = length-events steps in
      let some = length-events (drop n steps) in
      let less = length-drop n steps in
      omega arith

  pub left_events : (time n : ℕ) (steps : List (Done E N)) → n ≡ prefix_len (λ d. nat_lt (m.time d.event) time) steps
      → take (count_left m time (events_of (reverse steps))) (events_of (reverse steps)) ≡ events_of (reverse (drop n steps))
  left_events time n steps is =
      ap₂ take (left_is time n steps is) (events_parted n steps) ∙ take-append_seam (events_of (reverse (drop n steps))) (events_of (reverse (take n steps)))

  pub gone_events : (time n : ℕ) (steps : List (Done E N)) → n ≡ prefix_len (λ d. nat_lt (m.time d.event) time) steps
      → drop (count_left m time (events_of (reverse steps))) (events_of (reverse steps)) ≡ events_of (reverse (take n steps))
  gone_events time n steps is =
      ap₂ drop (left_is time n steps is) (events_parted n steps) ∙ drop-append_seam (events_of (reverse (drop n steps))) (events_of (reverse (take n steps)))

  all_early : (time : ℕ) (steps : List (Done E N)) → AllByRecursion (λ e. m.time e < time) (events_of (take (prefix_len (λ d. nat_lt (m.time d.event) time) steps) steps))
  all_early time [] = tt
  all_early time (d ∷ steps) =
      elim (cases_Bool (nat_lt (m.time d.event) time)) [
        | inl early ↦ rw early
            (let n = prefix_len (λ (d : Done E N). nat_lt (m.time d.event) time) steps in
            let more : suc n ≡ 1 + n = omega arith in
            subst (λ k. AllByRecursion (λ e. m.time e < time) (events_of (take k (d ∷ steps)))) more (ltb-true (m.time d.event) time early, all_early time steps))
        | inr late ↦ rw late tt
      ]

  -- all that is committed is before the bound
  pub past_early : (done time n : ℕ) (past : List E) (steps : List (Done E N)) → done ≤ time → n ≡ prefix_len (λ d. nat_lt (m.time d.event) time) steps
      → AllByRecursion (λ e. m.time e < done) past → AllByRecursion (λ e. m.time e < time) (events_of (reverse (take n steps)) ++ past)
  past_early done time n past steps later is old =
      let early = λ (e : E). m.time e < time in
      let new : AllByRecursion early (events_of (take n steps)) = subst (λ k. AllByRecursion early (events_of (take k steps))) (sym is) (all_early time steps) in
      let newest : AllByRecursion early (events_of (reverse (take n steps))) =
      subst (AllByRecursion early) (ap reverse (sym (events-reverse (take n steps))) ∙ reverse-reverse (events_of (reverse (take n steps)))) (all-reverse early (events_of (take n steps)) new) in
      all-append early (events_of (reverse (take n steps))) past newest (all_map (λ (e : E). m.time e < done) early (λ e h. omega arith) past old)

  module _ (latest : ℕ) (is_note : S → E → N → Type 0) (r : ℕ) where
    -- the newer steps have their notes still
    noted_after : (past : List E) (newer older : List (Done E N)) → AreNoted m latest is_note r past (newer ++ older) → AreNoted m latest is_note r (events_of older ++ past) newer
    noted_after past [] older h = tt
    noted_after past (d ∷ newer) older h =
        let same : events_of (newer ++ older) ++ past ≡ events_of newer ++ (events_of older ++ past) =
        ap (λ l. l ++ past) (map-append (λ (d : Done E N). d.event) newer older) ∙ append_assoc (events_of newer) (events_of older) past in (
          subst (λ h. is_note (state m r h) d.event d.note) same h.0,
          subst (λ h. m.full (state m r h) d.event ≡ false) same h.1,
          h.2,
          h.3,
          h.4,
          noted_after past newer older h.5,
        )

    -- the process is the same one, once its oldest events are committed
    pub past_committed : (knows : S) (done time n : ℕ) (past left : List E) (steps rest : List (Done E N)) → done ≤ time → n ≡ prefix_len (λ d. nat_lt (m.time d.event) time) steps
        → left ≡ events_of (reverse (take n steps)) ++ past → rest ≡ drop n steps → IsPast m latest is_note r past knows done steps → IsPast m latest is_note r left knows time rest
    past_committed knows done time n past left steps rest later is gone stay h =
        subst (λ l. IsPast m latest is_note r l knows time rest) (sym gone)
        (subst (IsPast m latest is_note r (events_of (reverse (take n steps)) ++ past) knows time) (sym stay) (record {
          here = h.here;
          known = h.known ∙ ap (state m r) (sym (same_history n past steps));
          noted = noted_after past (reverse (drop n steps)) (reverse (take n steps)) (subst (AreNoted m latest is_note r past) (parted n steps) h.noted);
          early = past_early done time n past steps later is h.early;
        }))

module _ {S E : Type 0} (m : Simulation S E) where
  -- events that are all before a time
  prefix_all : (time : ℕ) (events : List E) → AllByRecursion (λ e. m.time e < time) events → prefix_len (λ e. nat_lt (m.time e) time) events ≡ length events
  prefix_all time [] early = refl
  prefix_all time (e ∷ events) early = rw (lt-ltb (m.time e) time early.0) (let more = prefix_all time events early.1 in omega arith)

  -- the oldest events of a history, as far as each is before a time, are those that are then committed
  oldest_committed : (time : ℕ) (ahead past : List E) → AllByRecursion (λ e. m.time e < time) past
      → length (drop (count_left m time ahead) ahead ++ past) ≡ suffix_len (λ e. nat_lt (m.time e) time) (ahead ++ past)
  oldest_committed time ahead past early =
      let p = λ (e : E). nat_lt (m.time e) time in
      let turned : suffix_len p (ahead ++ past) ≡ prefix_len p (reverse past ++ reverse ahead) = ap (prefix_len p) (reverse-append ahead past) in
      let all : prefix_len p (reverse past) ≡ length (reverse past) = prefix_all time (reverse past) (all-reverse (λ (e : E). m.time e < time) past early) in
      let long = length-reverse past in
      let split = rw (eq-eqb (prefix_len p (reverse past)) (length (reverse past)) all) at (prefix_len-append p (reverse past) (reverse ahead)) in
      let within = suffix_len-le-length p ahead in
      let gone = length-append (drop (count_left m time ahead) ahead) past in
      let less = length-drop (count_left m time ahead) ahead in
      omega arith

  -- a commit leaves the history as it was, and is the machine's own step
  pub core_committed : {M : Type 0} (p : Logical M E) → AllByRecursion (λ e. m.time e < p.bound) p.past
      → (stop : ℕ) → process_core stop (committed_at m p) ≡ with_commit m (process_core stop p) p.number
  core_committed p early stop =
      let k = count_left m p.bound p.ahead in
      let histories : history (committed_at m p) ≡ history p = sym (append_assoc (take k p.ahead) (drop k p.ahead) p.past) ∙ ap (λ l. l ++ p.past) (take-append-drop k p.ahead) in
      let counts : length (drop k p.ahead ++ p.past) ≡ suffix_len (λ e. nat_lt (m.time e) p.bound) ((process_core stop p).history p.number) =
      oldest_committed p.bound p.ahead p.past early ∙ ap (suffix_len (λ e. nat_lt (m.time e) p.bound)) (sym (there stop p)) in
      let pasts = ap (put (λ r. 0) p.number) counts ∙ sym (same_put 0 p.number (length p.past) (suffix_len (λ e. nat_lt (m.time e) p.bound) ((process_core stop p).history p.number))) in
      let dones = sym (same_put 0 p.number p.done p.bound) in
      λ i. record (process_core stop p) { history = put (λ r. []) p.number (histories i); done = dones i; past = pasts i }
