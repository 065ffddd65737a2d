-- What a shard does at one of its routers is what the machine of its routers does there.
use Rattle.std.proofs.Common.{◌≡◌, ℕ, ◌<◌, ◌≤◌, ◌==◌, ◌↔◌, Bool, true, false, ◌||◌, List, [], ◌∷◌, ◌++◌, drop, length, map, refl, ap, ap₂, sym, ◌∙◌, inl, inr, nat_lt, Some, slice_get, Result, Ok, Err, if◌then◌else◌, arith}
use Rattle.std.specs.List.{AllByRecursion}
use Rattle.std.specs.Result.{result_and}
use Rattle.std.proofs.lemmas.Bool.{and_parts, cases_Bool, eqb-true, false_from_ne_true, lt-ltb, ltb-true}
use Rattle.std.proofs.lemmas.List.{length-append}
use Rattle.tw_core.specs.declared.refusal.Refusal.{Refusal}
use Rattle.tw_core.specs.declared.refusal.Refusal.TheVariants.{NotMine, Nothing, Double, AheadFull, Committed, CounterFull}
use Rattle.tw_core.specs.declared.limits.TheConstants.{OPENING_ROOM}
use Rattle.tw_core.specs.Machine.{Core, count_ahead}
use Rattle.tw_core.specs.Steps.{after_handling, after_undoing, first_pending, handle, held_back, is_newest, put, sent_back, still_held, to_send, undo}
use Rattle.tw_event.specs.declared.event.Event.{Event}
use Rattle.tw_handlers.specs.Calls.{is_full_at}
use Rattle.tw_model.specs.Case.{simulation}
use Rattle.tw_model.specs.declared.memory.OrMemory.{OrMemory}
use Rattle.tw_model.specs.declared.memory.OrMemory.TheVariants.{Fault, Memory}
use Rattle.tw_model.specs.Effect.{body_suits, effect, is_full, suits}
use Rattle.tw_shard.specs.Shard.{HandlesNext, IsSoundShard, IsUndone, Shard, handled_at, handling, may_handle, owns, shard_core, timeline, undoing, undone_at}
use Rattle.tw_shard.specs.Timeline.{Timeline, history, known, router_of, sends_after, signed}
use Rattle.tw_shard.proofs.Shares.{known_state, read_put, read_same}
use Rattle.tw_sim.specs.Simulation.{state}

-- nothing is refused
abbrev told_ok : Result (Unit {0}) Refusal
told_ok = Ok tt

not_told : (outcome : Result (Core Event) Refusal) (f : Refusal) → outcome ≡ Err f → told_ok ≡ result_and outcome told_ok → ⊥
not_told (Ok c) f is h = cc is
not_told (Err g) f is h = cc h

-- a fault is told where the machine refuses as it says
pub told_as : {A B : Type 0} {x : Result B Refusal} (f g : Refusal) → x ≡ Err g → ◌≡◌ {A = Result A (OrMemory Refusal)} (Err (Fault g)) (Err (Fault f)) ↔ (x ≡ Err f)
told_as f g is = ((λ h. is ∙ cc h), (λ h. cc (is, h)))

-- and none where it goes on, nor for want of memory
pub told_none : {A B : Type 0} {x : Result B Refusal} {b : B} (f : Refusal) (a : A) → x ≡ Ok b → ◌≡◌ {A = Result A (OrMemory Refusal)} (Ok a) (Err (Fault f)) ↔ (x ≡ Err f)
told_none f a is = ((λ h. absurd (cc h)), (λ h. absurd (cc (is, h))))

pub told_memory : {A B : Type 0} {x : Result B Refusal} {b : B} (f : Refusal) → x ≡ Ok b → ◌≡◌ {A = Result A (OrMemory Refusal)} (Err Memory) (Err (Fault f)) ↔ (x ≡ Err f)
told_memory f is = ((λ h. absurd (cc h)), (λ h. absurd (cc (is, h))))

-- what an event leads to that may equal the one handled last, and for which there may be no room
abbrev checked : {A : Type 0} → Bool → Bool → Result A Refusal → Result A Refusal
checked double room rest = if double then Err Double else (if room then rest else Err AheadFull)

checked-err : {A : Type 0} (double room : Bool) (rest : Result A Refusal) (f : Refusal) → checked double room told_ok ≡ Err f → checked double room rest ≡ Err f
checked-err true room rest f h = let same : Double ≡ f = cc h in ap (λ g. Err g) same
checked-err false true rest f h = absurd (cc h)
checked-err false false rest f h = let same : AheadFull ≡ f = cc h in ap (λ g. Err g) same

checked-ok : {A : Type 0} (double room : Bool) (rest : Result A Refusal) → checked double room told_ok ≡ told_ok → checked double room rest ≡ rest
checked-ok true room rest h = absurd (cc h)
checked-ok false true rest h = refl
checked-ok false false rest h = absurd (cc h)

-- a list by its first element
first_is : {A : Type 0} (xs : List A) (x : A) → slice_get xs 0 ≡ Some x → xs ≡ x ∷ drop 1 xs
first_is [] x h = absurd (cc h)
first_is (y ∷ xs) x h = let same : y ≡ x = cc h in ap (λ z. z ∷ xs) same

-- what is told of an undo that may come too late
told_late : (late : Bool) (C : Core Event) → result_and (if late then Err Committed else Ok C) told_ok ≡ (if late then Err Committed else told_ok)
told_late true C = refl
told_late false C = refl

late_by : (done bound : Bool) → bound ≡ true → (if done || bound then Err Committed else told_ok) ≡ Err Committed
late_by true bound h = refl
late_by false bound h = ap (λ b. if b then Err Committed else told_ok) h

in_time : (done bound : Bool) → done ≡ false → bound ≡ false → (if done || bound then Err Committed else told_ok) ≡ told_ok
in_time done bound h k = ap₂ (λ a b. if a || b then Err Committed else told_ok) h k

-- the newest event of a history can be undone where it is not before what is done
pub is_ahead : (ahead past : List Event) (done : ℕ) (e : Event) → slice_get (ahead ++ past) 0 ≡ Some e
    → AllByRecursion (λ (e : Event). e.time < done) past → done ≤ e.time → 0 < length ahead
is_ahead [] [] done e h all late = absurd (cc h)
is_ahead [] (x ∷ past) done e h all late =
    let same : x ≡ e = cc h in
    let early : x.time < done = all.0 in
    let time : x.time ≡ e.time = ap (λ (e : Event). e.time) same in
    omega arith
is_ahead (x ∷ ahead) past done e h all late = omega arith

module _ (s : Shard) (r : ℕ) (whole : IsSoundShard s) (mine : owns s r ≡ true) where
  -- what the timeline tells as sent is what the machine sends
  pub same_sends : (e : Event) (older : List Event) → e.dst ≡ r
      → sends_after (timeline s r) older e ≡ (effect s.terms.case.net e.dst (state (simulation s.terms.case) r older) e).sends
  same_sends e older home =
      let own = whole.routers r mine in
      let knows : known (timeline s r).net (timeline s r).node older ≡ state (simulation s.terms.case) r older =
      (λ i. known (own.net i) (own.node i) older) ∙ known_state s.terms.case r older in
      λ i. (effect (own.net i) ((own.node ∙ sym home) i) (knows i) e).sends

  pub core_undone : (stop : ℕ) (e : Event) (older : List Event) → e.dst ≡ r
      → shard_core stop (undone_at s r e older) ≡ after_undoing (simulation s.terms.case) (shard_core stop s) r e (older ++ (timeline s r).past)
  core_undone stop e older home =
      let t : Timeline = record (timeline s r) { ahead = older } in
      let next = undone_at s r e older in
      let histories = read_put s r t next.pending next.outgoing next.held whole mine history [] in
      let dones = read_same s r t next.pending next.outgoing next.held whole mine (λ (t : Timeline). t.done) 0 refl in
      let pasts = read_same s r t next.pending next.outgoing next.held whole mine (λ (t : Timeline). length t.past) 0 refl in
      let rooms = read_same s r t next.pending next.outgoing next.held whole mine (λ (t : Timeline). t.room) OPENING_ROOM refl in
      λ i. record {
        history = histories i;
        pending = next.pending;
        kept = s.kept;
        flight = s.outgoing ++ sent_back (simulation s.terms.case) s.terms.cancel (same_sends e (older ++ (timeline s r).past) home i);
        held = held_back (simulation s.terms.case) s.terms.cancel (same_sends e (older ++ (timeline s r).past) home i) s.held;
        done = dones i;
        past = pasts i;
        room = rooms i;
        bound = s.bound;
        stop = stop;
        cancel = s.terms.cancel;
      }

  pub core_handled : (stop : ℕ) (e : Event) → e.dst ≡ r
      → shard_core stop (handled_at s r e) ≡ after_handling (simulation s.terms.case) (shard_core stop s) r e
  core_handled stop e home =
      let t : Timeline = record (timeline s r) { ahead = e ∷ (timeline s r).ahead } in
      let next = handled_at s r e in
      let here : (shard_core stop s).history r ≡ history (timeline s r) = rw mine refl in
      let histories = read_put s r t next.pending next.outgoing next.held whole mine history [] in
      let dones = read_same s r t next.pending next.outgoing next.held whole mine (λ (t : Timeline). t.done) 0 refl in
      let pasts = read_same s r t next.pending next.outgoing next.held whole mine (λ (t : Timeline). length t.past) 0 refl in
      let rooms = read_same s r t next.pending next.outgoing next.held whole mine (λ (t : Timeline). t.room) OPENING_ROOM refl in
      let sends =
      same_sends e (history (timeline s r)) home ∙ ap (λ h. (effect s.terms.case.net e.dst (state (simulation s.terms.case) r h) e).sends) (sym here) in
      λ i. record {
        history = (histories ∙ ap (λ h. put (shard_core stop s).history r (e ∷ h)) (sym here)) i;
        pending = next.pending;
        kept = s.kept;
        flight = s.outgoing ++ map (signed true) (to_send (simulation s.terms.case) (sends i) s.held);
        held = still_held (simulation s.terms.case) (sends i) s.held;
        done = dones i;
        past = pasts i;
        room = rooms i;
        bound = s.bound;
        stop = stop;
        cancel = s.terms.cancel;
      }

  -- an undo that is not refused is the machine's
  pub undone : (stop : ℕ) (t : Shard) → IsUndone r s t → told_ok ≡ result_and (undoing stop s r) told_ok → undoing stop s r ≡ Ok (shard_core stop t)
  undone stop t h told =
      let m = simulation s.terms.case in
      let e = h.0 in
      let older = h.1 ++ (timeline s r).past in
      let newest : history (timeline s r) ≡ e ∷ older = ap (λ ahead. ahead ++ (timeline s r).past) h.2 in
      let here : (shard_core stop s).history r ≡ history (timeline s r) = rw mine refl in
      let same : undoing stop s r ≡ undo m (shard_core stop s) r (e ∷ older) =
      ap (λ b. if b then undo m (shard_core stop s) r ((shard_core stop s).history r) else Err NotMine) mine ∙ ap (undo m (shard_core stop s) r) (here ∙ newest) in
      let early = nat_lt e.time ((shard_core stop s).done r) || nat_lt e.time s.bound in
      let ok : undo m (shard_core stop s) r (e ∷ older) ≡ Ok (after_undoing m (shard_core stop s) r e older) =
      elim (cases_Bool early) [
        | inl refused ↦ absurd (not_told (undo m (shard_core stop s) r (e ∷ older)) Committed (ap (λ b. if b then Err Committed else Ok (after_undoing m (shard_core stop s) r e older)) refused)
            (told ∙ ap (λ x. result_and x told_ok) same))
        | inr late ↦ rw late refl
      ] in
      same ∙ (ok ∙ ap (λ c. Ok c) (sym (core_undone stop e h.1 h.3) ∙ ap (shard_core stop) (sym h.4)))

  -- what is told of an undo of the newest event
  undo_told : (stop : ℕ) (e : Event) → slice_get (history (timeline s r)) 0 ≡ Some e
      → result_and (undoing stop s r) told_ok ≡ (if nat_lt e.time (timeline s r).done || nat_lt e.time s.bound then Err Committed else told_ok)
  undo_told stop e first =
      let m = simulation s.terms.case in
      let older = drop 1 (history (timeline s r)) in
      let newest : history (timeline s r) ≡ e ∷ older = first_is (history (timeline s r)) e first in
      let here : (shard_core stop s).history r ≡ history (timeline s r) = rw mine refl in
      let done : (shard_core stop s).done r ≡ (timeline s r).done = rw mine refl in
      let same : undoing stop s r ≡ undo m (shard_core stop s) r (e ∷ older) =
      ap (λ b. if b then undo m (shard_core stop s) r ((shard_core stop s).history r) else Err NotMine) mine ∙ ap (undo m (shard_core stop s) r) (here ∙ newest) in
      ap (λ x. result_and x told_ok) same
      ∙ (told_late (nat_lt e.time ((shard_core stop s).done r) || nat_lt e.time s.bound) (after_undoing m (shard_core stop s) r e older)
      ∙ ap (λ d. if nat_lt e.time d || nat_lt e.time s.bound then Err Committed else told_ok) done)

  -- an undo of an event before the bound is refused
  pub undo_late : (stop : ℕ) (e : Event) → slice_get (history (timeline s r)) 0 ≡ Some e → e.time < s.bound
      → Err Committed ≡ result_and (undoing stop s r) told_ok
  undo_late stop e first early =
      sym (undo_told stop e first ∙ late_by (nat_lt e.time (timeline s r).done) (nat_lt e.time s.bound) (lt-ltb e.time s.bound early))

  -- and of another one it is not
  pub undo_open : (stop : ℕ) (e : Event) → slice_get (history (timeline s r)) 0 ≡ Some e → s.bound ≤ e.time
      → told_ok ≡ result_and (undoing stop s r) told_ok
  undo_open stop e first late =
      let within = (whole.routers r mine).done in
      let done = false_from_ne_true (nat_lt e.time (timeline s r).done) (λ yes. let early = ltb-true e.time (timeline s r).done yes in omega arith) in
      let bound = false_from_ne_true (nat_lt e.time s.bound) (λ yes. let early = ltb-true e.time s.bound yes in omega arith) in
      sym (undo_told stop e first ∙ in_time (nat_lt e.time (timeline s r).done) (nat_lt e.time s.bound) done bound)

  -- an event that suits a router is for it
  own_event : (e : Event) → suits s.terms.case.net r e ≡ true → e.dst ≡ r
  own_event e h = eqb-true e.dst r (and_parts (e.dst == r) (body_suits s.terms.case.net r e e.body) h).0

  -- as many events are not committed as it can undo
  pub ahead_is : (stop : ℕ) → count_ahead (shard_core stop s) r ≡ length (timeline s r).ahead
  ahead_is stop =
      let t = timeline s r in
      let here : (shard_core stop s).history r ≡ history t = rw mine refl in
      let past : (shard_core stop s).past r ≡ length t.past = rw mine refl in
      let long = ap length here ∙ length-append t.ahead t.past in
      omega arith

  -- and it has the room of its timeline
  pub room_is : (stop : ℕ) → (shard_core stop s).room r ≡ (timeline s r).room
  room_is stop = rw mine refl

  -- what handling e leads to, where its timeline tells nothing against it
  abbrev rest_of : ℕ → Event → Result (Core Event) Refusal
  rest_of stop e =
      if (simulation s.terms.case).full (state (simulation s.terms.case) r (history (timeline s r))) e
      then Err CounterFull
      else Ok (after_handling (simulation s.terms.case) (shard_core stop s) r e)

  -- what the first pending event leads to, where it is before the stop
  opened : (stop : ℕ) (e : Event) → first_pending (simulation s.terms.case) (shard_core stop s) r ≡ Some e → e.time < stop
      → handling stop s r ≡ checked (is_newest (simulation s.terms.case) e (history (timeline s r))) (nat_lt (length (timeline s r).ahead) (timeline s r).room) (rest_of stop e)
  opened stop e first soon =
      let m = simulation s.terms.case in
      let here : (shard_core stop s).history r ≡ history (timeline s r) = rw mine refl in
      let has_room = nat_lt (count_ahead (shard_core stop s) r) ((shard_core stop s).room r) in
      ap (λ b. if b then handle m (shard_core stop s) r (first_pending m (shard_core stop s) r) else Err NotMine) mine
      ∙ (ap (handle m (shard_core stop s) r) first
      ∙ (ap (λ b. if b then checked (is_newest m e ((shard_core stop s).history r)) has_room (if m.full (state m r ((shard_core stop s).history r)) e then Err CounterFull
      else Ok (after_handling m (shard_core stop s) r e)) else Err Nothing) (lt-ltb e.time stop soon)
      ∙ (ap (λ h. checked (is_newest m e h) has_room (if m.full (state m r h) e then Err CounterFull else Ok (after_handling m (shard_core stop s) r e))) here
      ∙ ap₂ (λ n k. checked (is_newest m e (history (timeline s r))) (nat_lt n k) (rest_of stop e)) (ahead_is stop) (room_is stop))))

  -- where its timeline tells why not, that is why
  pub is_held_off : (stop : ℕ) (e : Event) → first_pending (simulation s.terms.case) (shard_core stop s) r ≡ Some e → e.time < stop
      → (f : Refusal) → may_handle s r e ≡ Err f → handling stop s r ≡ Err f
  is_held_off stop e first soon f h =
      opened stop e first soon
      ∙ checked-err (is_newest (simulation s.terms.case) e (history (timeline s r))) (nat_lt (length (timeline s r).ahead) (timeline s r).room) (rest_of stop e) f h

  -- whether a counter is full, as the router tells it
  same_full : (e : Event) → e.dst ≡ r → is_full_at (router_of (timeline s r)) e ≡ (simulation s.terms.case).full (state (simulation s.terms.case) r (history (timeline s r))) e
  same_full e home =
      let own = whole.routers r mine in
      let h = history (timeline s r) in
      let knows : known (timeline s r).net (timeline s r).node h ≡ state (simulation s.terms.case) r h =
      (λ i. known (own.net i) (own.node i) h) ∙ known_state s.terms.case r h in
      λ i. is_full (own.net i) ((own.node ∙ sym home) i) (knows i) e

  undoubled : (stop : ℕ) (e : Event) → HandlesNext stop s r e
      → handling stop s r ≡ (if is_full_at (router_of (timeline s r)) e then Err CounterFull else Ok (after_handling (simulation s.terms.case) (shard_core stop s) r e))
  undoubled stop e next =
      let m = simulation s.terms.case in
      opened stop e next.first next.soon
      ∙ (checked-ok (is_newest m e (history (timeline s r))) (nat_lt (length (timeline s r).ahead) (timeline s r).room) (rest_of stop e) next.free
      ∙ ap (λ b. if b then Err CounterFull else Ok (after_handling m (shard_core stop s) r e)) (sym (same_full e (own_event e next.suit))))

  pub is_stuck : (stop : ℕ) (e : Event) → HandlesNext stop s r e → is_full_at (router_of (timeline s r)) e ≡ true → handling stop s r ≡ Err CounterFull
  is_stuck stop e next full =
      undoubled stop e next ∙ ap (λ b. if b then Err CounterFull else Ok (after_handling (simulation s.terms.case) (shard_core stop s) r e)) full

  pub goes_on : (stop : ℕ) (e : Event) → HandlesNext stop s r e → (is_full_at (router_of (timeline s r)) e ≡ true → ⊥)
      → handling stop s r ≡ Ok (shard_core stop (handled_at s r e))
  goes_on stop e next room =
      undoubled stop e next
      ∙ (ap (λ b. if b then Err CounterFull else Ok (after_handling (simulation s.terms.case) (shard_core stop s) r e)) (false_from_ne_true (is_full_at (router_of (timeline s r)) e) room)
      ∙ ap (λ c. Ok c) (sym (core_handled stop e (own_event e next.suit))))
