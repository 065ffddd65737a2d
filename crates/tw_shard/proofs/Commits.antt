-- What a commit leaves of a timeline.
use Rattle.std.proofs.Common.{◌≡◌, ℕ, zero, suc, ◌+◌, ◌-◌, ◌<◌, ◌≤◌, ◌==◌, Bool, not, true, cond, List, [], ◌∷◌, ◌++◌, refl, ap, ap₂, sym, ◌∙◌, subst, inl, inr, arith, nat_lt, Ok, Err, if◌then◌else◌}
use Rattle.std.proofs.Common.{append_assoc, count_by, drop, filter, length, reverse, slice_get, take}
use Rattle.std.specs.List.{AllByRecursion, prefix_len, suffix_len}
use Rattle.std.proofs.Math.Seq.{drop-append_seam, take-append_seam}
use Rattle.std.proofs.lemmas.Bool.{cases_Bool, eq-eqb, lt-ltb, ltb-true}
use Rattle.std.proofs.lemmas.List.{length-append, length-drop, length-reverse, map-append, reverse-append, reverse-reverse, take-append-drop}
use Rattle.std.proofs.lemmas.List.Elements.{filter-append}
use Rattle.std.proofs.lemmas.List.Folds.{prefix_len-append}
use Rattle.std.proofs.lemmas.List.Sums.{length-filter, suffix_len-le-length, sum_by-append}
use Rattle.tw_core.specs.declared.refusal.Refusal.TheVariants.{NotMine}
use Rattle.tw_core.specs.declared.limits.TheConstants.{OPENING_ROOM}
use Rattle.tw_core.specs.Steps.{put, with_commit}
use Rattle.tw_core.proofs.Sums.{all_map}
use Rattle.tw_event.specs.declared.event.Event.{Event}
use Rattle.tw_handlers.specs.Record.{IsHandled}
use Rattle.tw_event.specs.declared.record.UndoRecord.{UndoRecord}
use Rattle.tw_model.specs.Case.{Case, simulation}
use Rattle.tw_model.specs.Net.{Net}
use Rattle.tw_model.specs.State.{State}
use Rattle.tw_shard.specs.declared.timeline.HandledEvent.{HandledEvent}
use Rattle.tw_shard.specs.Commit.{committed_at, committed_to, committing, count_left, not_before}
use Rattle.tw_shard.specs.Past.{own_run}
use Rattle.tw_shard.specs.Shard.{FollowsRun, IsSoundShard, Shard, owns, shard_core, timeline}
use Rattle.tw_shard.specs.Timeline.{AreNoted, IsRunUntil, Timeline, changes_path, events_of, history, known, last_change_at, noted_change}
use Rattle.tw_shard.proofs.Histories.{length-events, reverse-push}
use Rattle.tw_shard.proofs.Shares.{put_same, read_put, read_same, timeline_here}
use Rattle.tw_sim.specs.Simulation.{IsFalling, below}

-- the events of steps, in the other order
pub events-reverse : (steps : List HandledEvent) → reverse (events_of (reverse steps)) ≡ events_of steps
events-reverse [] = refl
events-reverse (d ∷ steps) =
    ap (λ l. reverse (events_of l)) (reverse-append (d ∷ []) steps)
    ∙ (ap reverse (map-append (λ (d : HandledEvent). d.event) (reverse steps) (d ∷ []))
    ∙ (reverse-push (events_of (reverse steps)) d.event ∙ ap (λ l. d.event ∷ l) (events-reverse steps)))

-- the steps, the newest first, in two parts
pub parted : (n : ℕ) (steps : List HandledEvent) → reverse steps ≡ reverse (drop n steps) ++ reverse (take n steps)
parted n steps = ap reverse (sym (take-append-drop n steps)) ∙ reverse-append (take n steps) (drop n steps)

-- and their events
pub events_parted : (n : ℕ) (steps : List HandledEvent)
    → events_of (reverse steps) ≡ events_of (reverse (drop n steps)) ++ events_of (reverse (take n steps))
events_parted n steps = ap events_of (parted n steps) ∙ map-append (λ (d : HandledEvent). d.event) (reverse (drop n steps)) (reverse (take n steps))

prefix-events : (p : Event → Bool) (steps : List HandledEvent) → prefix_len p (events_of steps) ≡ prefix_len (λ d. p d.event) steps
prefix-events p [] = refl
prefix-events p (d ∷ steps) = ap (λ n. cond (p d.event) (1 + n) 0) (prefix-events p steps)

-- how many are left, where the first n are all before a time
pub left_is : (time n : ℕ) (steps : List HandledEvent) → n ≡ prefix_len (λ d. nat_lt d.event.time time) steps
    → count_left time (events_of (reverse steps)) ≡ length (events_of (reverse (drop n steps)))
left_is time n steps is =
    let p = λ (e : Event). nat_lt e.time time in
    let counted : suffix_len p (events_of (reverse steps)) ≡ n = ap (prefix_len p) (events-reverse steps) ∙ (prefix-events p steps ∙ sym is) in
    let all = length-events steps in
    let some = length-events (drop n steps) in
    let less = length-drop n steps in
    omega arith

pub left_events : (time n : ℕ) (steps : List HandledEvent) → n ≡ prefix_len (λ d. nat_lt d.event.time time) steps
    → take (count_left time (events_of (reverse steps))) (events_of (reverse steps)) ≡ events_of (reverse (drop n steps))
left_events time n steps is =
    ap₂ take (left_is time n steps is) (events_parted n steps) ∙ take-append_seam (events_of (reverse (drop n steps))) (events_of (reverse (take n steps)))

pub gone_events : (time n : ℕ) (steps : List HandledEvent) → n ≡ prefix_len (λ d. nat_lt d.event.time time) steps
    → drop (count_left time (events_of (reverse steps))) (events_of (reverse steps)) ≡ events_of (reverse (take n steps))
gone_events time n steps is =
    ap₂ drop (left_is time n steps is) (events_parted n steps) ∙ drop-append_seam (events_of (reverse (drop n steps))) (events_of (reverse (take n steps)))

-- the committed events, the newest first
pub past_events : (past : List Event) (steps : List HandledEvent) → reverse (past ++ events_of steps) ≡ events_of (reverse steps) ++ reverse past
past_events past steps =
    reverse-append past (events_of steps)
    ∙ ap (λ l. l ++ reverse past) (ap reverse (sym (events-reverse steps)) ∙ reverse-reverse (events_of (reverse steps)))

-- the newer steps have their records still
noted_after : (net : Net) (v : ℕ) (past : List Event) (newer older : List HandledEvent) → AreNoted net v past (newer ++ older)
    → AreNoted net v (events_of older ++ past) newer
noted_after net v past [] older h = tt
noted_after net v past (d ∷ newer) older h =
    let same : events_of (newer ++ older) ++ past ≡ events_of newer ++ (events_of older ++ past) =
    ap (λ l. l ++ past) (map-append (λ (d : HandledEvent). d.event) newer older) ∙ append_assoc (events_of newer) (events_of older) past in
    (subst (λ h. IsHandled net v (known net v h) d.event d.note (known net v (d.event ∷ h))) same h.0, noted_after net v past newer older h.1)

-- and so have the older ones
noted_before : (net : Net) (v : ℕ) (past : List Event) (newer older : List HandledEvent) → AreNoted net v past (newer ++ older) → AreNoted net v past older
noted_before net v past [] older h = h
noted_before net v past (d ∷ newer) older h = noted_before net v past newer older h.1

-- one more step, the newest one
noted_change-push : (time : ℕ) (steps : List HandledEvent) (d : HandledEvent)
    → noted_change time (steps ++ d ∷ []) ≡ (if d.note.changed then d.event.time else noted_change time steps)
noted_change-push time [] d = refl
noted_change-push time (x ∷ steps) d = noted_change-push (if x.note.changed then x.event.time else time) steps d

-- what the records say of the last change is so
changed_by : (net : Net) (v : ℕ) (past : List Event) (steps : List HandledEvent) (time : ℕ) → AreNoted net v past steps → time ≡ last_change_at net v past
    → noted_change time (reverse steps) ≡ last_change_at net v (events_of steps ++ past)
changed_by net v past [] time h is = is
changed_by net v past (d ∷ older) time h is =
    let s = known net v (events_of older ++ past) in
    let told : d.note.changed ≡ changes_path net v d.event (events_of older ++ past) =
    ap (λ (u : UndoRecord). u.changed) (sym h.0.note) ∙ ap (λ (t : State). not (s.rib.0 == t.rib.0)) h.0.state in
    ap (noted_change time) (reverse-append (d ∷ []) older)
    ∙ (noted_change-push time (reverse older) d
    ∙ ap₂ (λ (b : Bool) (n : ℕ). if b then d.event.time else n) told (changed_by net v past older time h.1 is))

-- the time of the last change in a history
pub change_now : (net : Net) (v : ℕ) (past : List Event) (steps : List HandledEvent) (time : ℕ) → AreNoted net v past (reverse steps) → time ≡ last_change_at net v past
    → noted_change time steps ≡ last_change_at net v (events_of (reverse steps) ++ past)
change_now net v past steps time h is =
    ap (noted_change time) (sym (reverse-reverse steps)) ∙ changed_by net v past (reverse steps) time h is

-- and in what is committed, with the first steps
pub change_committed : (net : Net) (v n : ℕ) (past : List Event) (steps : List HandledEvent) (time : ℕ) → AreNoted net v past (reverse steps)
    → time ≡ last_change_at net v past → noted_change time (take n steps) ≡ last_change_at net v (events_of (reverse (take n steps)) ++ past)
change_committed net v n past steps time h is =
    let older = noted_before net v past (reverse (drop n steps)) (reverse (take n steps)) (subst (AreNoted net v past) (parted n steps) h) in
    change_now net v past (take n steps) time older is

pub noted_left : (net : Net) (v n : ℕ) (past : List Event) (steps : List HandledEvent) → AreNoted net v past (reverse steps)
    → AreNoted net v (events_of (reverse (take n steps)) ++ past) (reverse (drop n steps))
noted_left net v n past steps h = noted_after net v past (reverse (drop n steps)) (reverse (take n steps)) (subst (AreNoted net v past) (parted n steps) h)

-- the history is the same
pub same_history : (n : ℕ) (past : List Event) (steps : List HandledEvent)
    → events_of (reverse (drop n steps)) ++ (events_of (reverse (take n steps)) ++ past) ≡ events_of (reverse steps) ++ past
same_history n past steps =
    let newer = events_of (reverse (drop n steps)) in
    let older = events_of (reverse (take n steps)) in
    sym (append_assoc newer older past) ∙ ap (λ l. l ++ past) (sym (events_parted n steps))

all-append : {X : Type 0} (P : X → Type 0) (xs ys : List X) → AllByRecursion P xs → AllByRecursion P ys → AllByRecursion P (xs ++ ys)
all-append P [] ys h k = k
all-append P (x ∷ xs) ys h k = (h.0, all-append P xs ys h.1 k)

all-reverse : {X : Type 0} (P : X → Type 0) (xs : List X) → AllByRecursion P xs → AllByRecursion P (reverse xs)
all-reverse P [] h = tt
all-reverse P (x ∷ xs) h = subst (AllByRecursion P) (sym (reverse-append (x ∷ []) xs)) (all-append P (reverse xs) (x ∷ []) (all-reverse P xs h.1) (h.0, tt))

pub all_early : (time : ℕ) (steps : List HandledEvent)
    → AllByRecursion (λ e. e.time < time) (events_of (take (prefix_len (λ d. nat_lt d.event.time time) steps) steps))
all_early time [] = tt
all_early time (d ∷ steps) =
    elim (cases_Bool (nat_lt d.event.time time)) [
      | inl early ↦ rw early
          (let n = prefix_len (λ (d : HandledEvent). nat_lt d.event.time time) steps in
          let more : suc n ≡ 1 + n = omega arith in
          subst (λ k. AllByRecursion (λ e. e.time < time) (events_of (take k (d ∷ steps)))) more (ltb-true d.event.time time early, all_early time steps))
      | inr late ↦ rw late tt
    ]

-- all that is committed is before the bound
pub past_early : (done time n : ℕ) (past : List Event) (steps : List HandledEvent) → done ≤ time → n ≡ prefix_len (λ d. nat_lt d.event.time time) steps
    → AllByRecursion (λ e. e.time < done) past → AllByRecursion (λ e. e.time < time) (events_of (reverse (take n steps)) ++ past)
past_early done time n past steps later is old =
    let early = λ (e : Event). e.time < time in
    let new : AllByRecursion early (events_of (take n steps)) = subst (λ k. AllByRecursion early (events_of (take k steps))) (sym is) (all_early time steps) in
    let newest : AllByRecursion early (events_of (reverse (take n steps))) =
    subst (AllByRecursion early) (ap reverse (sym (events-reverse (take n steps))) ∙ reverse-reverse (events_of (reverse (take n steps)))) (all-reverse early (events_of (take n steps)) new) in
    all-append early (events_of (reverse (take n steps))) past newest (all_map (λ (e : Event). e.time < done) early (λ e h. omega arith) past old)

-- ---- reads

-- the events, the oldest first
pub oldest_first : (past : List Event) (steps : List HandledEvent) → reverse (events_of (reverse steps) ++ past) ≡ reverse past ++ events_of steps
oldest_first past steps = reverse-append (events_of (reverse steps)) past ∙ ap (λ ys. reverse past ++ ys) (events-reverse steps)

slice_get-append : {A : Type 0} (xs ys : List A) (k : ℕ) → slice_get (xs ++ ys) (length xs + k) ≡ slice_get ys k
slice_get-append [] ys k = ap (slice_get ys) (omega arith)
slice_get-append (x ∷ xs) ys k =
    let step : length (x ∷ xs) + k ≡ suc (length xs + k) = omega arith in
    ap (slice_get (x ∷ (xs ++ ys))) step ∙ slice_get-append xs ys k

-- an event that can be undone stands after the committed ones
pub ahead_at : (past : List Event) (steps : List HandledEvent) (k : ℕ) → length past ≤ k
    → slice_get (events_of steps) (k - length past) ≡ slice_get (reverse (events_of (reverse steps) ++ past)) k
ahead_at past steps k after =
    let long = length-reverse past in
    let place : length (reverse past) + (k - length past) ≡ k = omega arith in
    sym (slice_get-append (reverse past) (events_of steps) (k - length past)) ∙ ap₂ slice_get (sym (oldest_first past steps)) place

slice_get-front : {A : Type 0} (xs ys : List A) (k : ℕ) → k < length xs → slice_get (xs ++ ys) k ≡ slice_get xs k
slice_get-front [] ys k h = absurd (omega arith)
slice_get-front (x ∷ xs) ys zero h = refl
slice_get-front (x ∷ xs) ys (suc k) h = slice_get-front xs ys k (omega arith)

pub past_at : (past : List Event) (steps : List HandledEvent) (k : ℕ) → k < length past
    → slice_get (reverse past) k ≡ slice_get (reverse (events_of (reverse steps) ++ past)) k
past_at past steps k within =
    sym (slice_get-front (reverse past) (events_of steps) k (let long = length-reverse past in omega arith)) ∙ ap (λ l. slice_get l k) (sym (oldest_first past steps))

pub all_pass : (time : ℕ) (events : List Event) → AllByRecursion (λ e. e.time < time) events → filter (λ e. nat_lt e.time time) events ≡ events
all_pass time [] h = refl
all_pass time (e ∷ events) h = rw (lt-ltb e.time time h.0) (ap (λ l. e ∷ l) (all_pass time events h.1))

counted : (p : Event → Bool) (steps : List HandledEvent) → count_by p (events_of (reverse steps)) ≡ count_by (λ d. p d.event) steps
counted p [] = refl
counted p (d ∷ steps) =
    let one : ℕ = cond (p d.event) 1 0 in
    let newer : List Event = events_of (reverse steps) in
    let split : count_by p (events_of (reverse (d ∷ steps))) ≡ count_by p (newer ++ d.event ∷ []) =
    ap (λ l. count_by p (events_of l)) (reverse-append (d ∷ []) steps) ∙ ap (count_by p) (map-append (λ (d : HandledEvent). d.event) (reverse steps) (d ∷ [])) in
    let sum : count_by p (newer ++ d.event ∷ []) ≡ count_by p newer + (0 + one) = sum_by-append (λ e. cond (p e) 1 0) newer (d.event ∷ []) in
    let rest : count_by p newer ≡ count_by (λ d. p d.event) steps = counted p steps in
    let first : count_by (λ d. p d.event) (d ∷ steps) ≡ (0 + one) + count_by (λ d. p d.event) steps = sum_by-append (λ d. cond (p d.event) 1 0) (d ∷ []) steps in
    omega arith

-- how many are before a time that all committed ones are before
pub count_early : (time : ℕ) (past : List Event) (steps : List HandledEvent) → AllByRecursion (λ e. e.time < time) past
    → length past + count_by (λ d. nat_lt d.event.time time) steps ≡ length (filter (λ e. nat_lt e.time time) (events_of (reverse steps) ++ past))
count_early time past steps early =
    let p = λ (e : Event). nat_lt e.time time in
    let split = ap length (filter-append p (events_of (reverse steps)) past) ∙ length-append (filter p (events_of (reverse steps))) (filter p past) in
    let old = ap length (all_pass time past early) in
    let new = length-filter p (events_of (reverse steps)) ∙ counted p steps in
    omega arith

-- events that are all before a time
prefix_all : (time : ℕ) (events : List Event) → AllByRecursion (λ e. e.time < time) events → prefix_len (λ e. nat_lt e.time time) events ≡ length events
prefix_all time [] early = refl
prefix_all time (e ∷ events) early = rw (lt-ltb e.time time early.0) (let more = prefix_all time events early.1 in omega arith)

-- the oldest events of a history, as far as each is before a time, are those that are then committed
pub oldest_committed : (time : ℕ) (ahead past : List Event) → AllByRecursion (λ e. e.time < time) past
    → length (drop (count_left time ahead) ahead ++ past) ≡ suffix_len (λ e. nat_lt e.time time) (ahead ++ past)
oldest_committed time ahead past early =
    let p = λ (e : Event). nat_lt e.time time in
    let turned : suffix_len p (ahead ++ past) ≡ prefix_len p (reverse past ++ reverse ahead) = ap (prefix_len p) (reverse-append ahead past) in
    let all : prefix_len p (reverse past) ≡ length (reverse past) = prefix_all time (reverse past) (all-reverse (λ (e : Event). e.time < time) past early) in
    let long = length-reverse past in
    let split = rw (eq-eqb (prefix_len p (reverse past)) (length (reverse past)) all) at (prefix_len-append p (reverse past) (reverse ahead)) in
    let within = suffix_len-le-length p ahead in
    let gone = length-append (drop (count_left time ahead) ahead) past in
    let less = length-drop (count_left time ahead) ahead in
    omega arith

-- ---- the machine

-- a commit leaves the history as it was
pub kept_history : (bound : ℕ) (t : Timeline) → history (committed_to bound t) ≡ history t
kept_history bound t =
    let n = count_left bound t.ahead in
    sym (append_assoc (take n t.ahead) (drop n t.ahead) t.past) ∙ ap (λ l. l ++ t.past) (take-append-drop n t.ahead)

module _ (s : Shard) (r : ℕ) (whole : IsSoundShard s) (mine : owns s r ≡ true) where
  -- what was committed was before the bound
  abbrev WasEarly : Type 0
  WasEarly = AllByRecursion (λ (e : Event). e.time < (timeline s r).done) (timeline s r).past

  pub core_committed : WasEarly → (stop : ℕ) → shard_core stop (committed_at s r) ≡ with_commit (simulation s.terms.case) (shard_core stop s) r
  core_committed early stop =
      let t : Timeline = committed_to s.bound (timeline s r) in
      let here : (shard_core stop s).history r ≡ history (timeline s r) = rw mine refl in
      let soon : AllByRecursion (λ (e : Event). e.time < s.bound) (timeline s r).past =
      all_map (λ (e : Event). e.time < (timeline s r).done) (λ e. e.time < s.bound) (λ e h. let done = (whole.routers r mine).done in omega arith) (timeline s r).past early in
      let count : length t.past ≡ suffix_len (λ e. nat_lt e.time s.bound) ((shard_core stop s).history r) =
      oldest_committed s.bound (timeline s r).ahead (timeline s r).past soon ∙ ap (suffix_len (λ e. nat_lt e.time s.bound)) (sym here) in
      let histories =
      read_put s r t s.pending s.outgoing s.held whole mine history []
      ∙ put_same (shard_core stop s).history r (history t) (here ∙ sym (kept_history s.bound (timeline s r))) in
      let dones = read_put s r t s.pending s.outgoing s.held whole mine (λ (t : Timeline). t.done) 0 in
      let pasts = read_put s r t s.pending s.outgoing s.held whole mine (λ (t : Timeline). length t.past) 0 ∙ ap (put (shard_core stop s).past r) count in
      let rooms = read_same s r t s.pending s.outgoing s.held whole mine (λ (t : Timeline). t.room) OPENING_ROOM refl in
      λ i. record {
        history = histories i;
        pending = s.pending;
        kept = s.kept;
        flight = s.outgoing;
        held = s.held;
        done = dones i;
        past = pasts i;
        room = rooms i;
        bound = s.bound;
        stop = stop;
        cancel = s.terms.cancel;
      }

  -- what the machine does where the router is one of its own
  pub goes : WasEarly → (stop : ℕ) → committing stop s r ≡ Ok (shard_core stop (committed_at s r))
  goes early stop =
      ap (λ b. if b then Ok (with_commit (simulation s.terms.case) (shard_core stop s) r) else Err NotMine) mine ∙ ap (λ c. Ok c) (sym (core_committed early stop))

  -- a history that follows the run does so at the timeline
  pub runs_until : FollowsRun s r → IsRunUntil s.bound (timeline s r)
  runs_until follows =
      let own = whole.routers r mine in
      let here : (shard_core 0 s).history r ≡ history (timeline s r) = rw mine refl in
      record {
        falling = subst (λ case. IsFalling (simulation case) (history (timeline s r))) (sym own.case) (subst (IsFalling (simulation s.terms.case)) here follows.falling);
        run = (λ i. below (simulation (own.case i)) s.bound (sym here i)) ∙ (follows.run ∙ (λ i. own_run (sym own.case i) (sym own.node i) s.bound));
      }

  -- what is said of a router's timeline after a commit, of a history of this case
  committed_timeline : (P : Timeline → Case → List Event → Type 0) → P (committed_to s.bound (timeline s r)) (timeline s r).case (history (timeline s r))
      → P (timeline (committed_at s r) r) s.terms.case ((shard_core 0 s).history r)
  committed_timeline P told =
      let t : Timeline = committed_to s.bound (timeline s r) in
      let now : timeline (committed_at s r) r ≡ t = timeline_here s r t s.pending s.outgoing s.held whole mine in
      let here : (shard_core 0 s).history r ≡ history (timeline s r) = rw mine refl in
      subst (λ u. P u s.terms.case ((shard_core 0 s).history r)) (sym now)
      (subst (P t s.terms.case) (sym here) (subst (λ case. P t case (history (timeline s r))) (whole.routers r mine).case told))

  -- where its history is in order, all before the bound is committed
  pub past_committed : (IsFalling (simulation (timeline s r).case) (history (timeline s r))
      → (committed_to s.bound (timeline s r)).past ≡ below (simulation (timeline s r).case) s.bound (history (timeline s r)))
      → IsFalling (simulation s.terms.case) ((shard_core 0 s).history r) → (timeline (committed_at s r) r).past ≡ below (simulation s.terms.case) s.bound ((shard_core 0 s).history r)
  past_committed = committed_timeline (λ t case h. IsFalling (simulation case) h → t.past ≡ below (simulation case) s.bound h)

  -- and what can be undone still is all that is not before the bound
  pub ahead_committed : (IsFalling (simulation (timeline s r).case) (history (timeline s r))
      → (committed_to s.bound (timeline s r)).ahead ≡ not_before s.bound (history (timeline s r)))
      → IsFalling (simulation s.terms.case) ((shard_core 0 s).history r) → (timeline (committed_at s r) r).ahead ≡ not_before s.bound ((shard_core 0 s).history r)
  ahead_committed = committed_timeline (λ t case h. IsFalling (simulation case) h → t.ahead ≡ not_before s.bound h)
