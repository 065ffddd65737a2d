-- The steps of the machine: what each does, and why it is refused (after Jefferson, Virtual Time, 1985).
use Rattle.std.specs.Prelude.{ℕ, zero, suc, ◌≡◌, ◌*◌, ◌==◌, Bool, true, false, cond, not, ◌||◌, List, [], ◌∷◌, ◌++◌, map, min, remove, slice_get, nat_lt, Option, Some, None, Result, Ok, Err, if◌then◌else◌}
use Rattle.std.specs.List.{filter, suffix_len}
use Rattle.std.specs.Result.{result_and, result_unwrap_or}
use Rattle.tw_core.specs.declared.refusal.Refusal.{Refusal}
use Rattle.tw_core.specs.declared.refusal.Refusal.TheVariants.{NotMine, Nothing, Double, AheadFull, Committed, NoMessage, CounterFull}
use Rattle.tw_core.specs.Machine.{Core, count_ahead}
use Rattle.tw_sim.specs.declared.machine.Cancel.{Cancel}
use Rattle.tw_sim.specs.declared.machine.Cancel.TheVariants.{Aggressive, Lazy}
use Rattle.tw_sim.specs.declared.machine.Signed.{Signed}
use Rattle.tw_sim.specs.declared.machine.Step.{Step}
use Rattle.tw_sim.specs.declared.machine.Step.TheVariants.{Handle, Undo, Deliver, Bound, Commit, Release}
use Rattle.tw_sim.specs.Ordered as ordered
use Rattle.tw_sim.specs.Seq.{insert, insert_all}
use Rattle.tw_sim.specs.Simulation.{Simulation, only, state, times}

-- e as a message
abbrev pub message : {E : Type 0} → E → Signed E
message e = record { plus = true; event = e }

-- the antimessage that takes e back
abbrev pub antimessage : {E : Type 0} → E → Signed E
antimessage e = record { plus = false; event = e }

-- a function with another value at one place
abbrev pub put : {A : Type 0} → (ℕ → A) → ℕ → A → ℕ → A
put f r a q = cond (q == r) a (f q)

-- ---- what a step does

module _ {S E : Type 0} (m : Simulation S E) where
  -- without one e
  abbrev pub take_out : E → List E → List E
  take_out e xs = ordered.take_out m.same e xs

  -- of what is sent, what goes out: where an equal message is held, that one is there already
  abbrev pub to_send : List E → List E → List E
  to_send xs [] = xs
  to_send [] (h ∷ held) = []
  to_send (x ∷ xs) (h ∷ held) =
      if nat_lt 0 (times m x (h ∷ held))
      then to_send xs (take_out x (h ∷ held))
      else x ∷ to_send xs (h ∷ held)

  -- and what is held still, once that is sent again
  abbrev pub still_held : List E → List E → List E
  still_held xs [] = []
  still_held [] (h ∷ held) = h ∷ held
  still_held (x ∷ xs) (h ∷ held) = still_held xs (take_out x (h ∷ held))

  -- of what an undone event had sent, what is taken back at once
  abbrev pub sent_back : Cancel → List E → List (Signed E)
  sent_back Aggressive xs = map antimessage xs
  sent_back Lazy xs = []

  -- and what is held then
  abbrev pub held_back : Cancel → List E → List E → List E
  held_back Aggressive xs held = held
  held_back Lazy xs held = insert_all m xs held

  -- r has handled e, which was pending: what e sends and is not held goes to the end of the flight
  abbrev pub after_handling : Core E → ℕ → E → Core E
  after_handling C r e = record C {
    history = put C.history r (e ∷ C.history r);
    pending = take_out e C.pending;
    flight = C.flight ++ map message (to_send (m.sends (state m r (C.history r)) e) C.held);
    held = still_held (m.sends (state m r (C.history r)) e) C.held;
  }

  -- r has undone e, the newest of its history, of which older is the rest: what e sent is taken back, or held
  abbrev pub after_undoing : Core E → ℕ → E → List E → Core E
  after_undoing C r e older = record C {
    history = put C.history r older;
    pending = insert m e C.pending;
    flight = C.flight ++ sent_back C.cancel (m.sends (state m r older) e);
    held = held_back C.cancel (m.sends (state m r older) e) C.held;
  }

  -- r has undone the newest events of its history as long as they pass the test
  abbrev pub after_undoing_while : (E → Bool) → ℕ → List E → Core E → Core E
  after_undoing_while test r [] C = C
  after_undoing_while test r (e ∷ older) C = cond (test e) (after_undoing_while test r older (after_undoing C r e older)) C

  -- its router has undone each event after e
  abbrev pub without_later : Core E → E → Core E
  without_later C e = after_undoing_while (λ x. m.before e x) (m.dst e) (C.history (m.dst e)) C

  -- its router has undone the events down to and including e: none that is left is e or after it
  abbrev pub without_from : Core E → E → Core E
  without_from C e = after_undoing_while (λ x. not (m.before x e)) (m.dst e) (C.history (m.dst e)) C

  -- the receiver of x has undone its n newest events, none of which is before x
  abbrev pub AreUndone : ℕ → E → Core E → Core E → Type 0
  AreUndone zero x C D = D ≡ C
  AreUndone (suc n) x C D =
      (B : Core E) × AreUndone n x C B × ((e : E) × (older : List E) × (B.history (m.dst x) ≡ e ∷ older) × (m.before e x ≡ false) × (D ≡ after_undoing B (m.dst x) e older))

  -- the receiver of x has undone some of its newest events, none of which is before x, and nothing else has changed
  abbrev pub IsRolledBack : E → Core E → Core E → Type 0
  IsRolledBack x C D = (n : ℕ) × AreUndone n x C D

  -- e is pending once more
  abbrev pub with_pending : Core E → E → Core E
  with_pending C e = record C { pending = insert m e C.pending }

  -- e is pending once less
  abbrev pub without_pending : Core E → E → Core E
  without_pending C e = record C { pending = take_out e C.pending }

  -- a message has come: it vanishes with its antimessage where that is kept, else it is pending and no later event is handled
  abbrev pub after_message : Core E → E → Core E
  after_message C e =
      if nat_lt 0 (times m e C.kept)
      then record C { kept = take_out e C.kept }
      else with_pending (without_later C e) e

  -- an antimessage has come: it vanishes with its event where that is pending or handled, else it is kept
  abbrev pub after_antimessage : Core E → E → Core E
  after_antimessage C e =
      if nat_lt 0 (times m e C.pending)
      then without_pending C e
      else (if nat_lt 0 (times m e (C.history (m.dst e)))
      then without_pending (without_from C e) e
      else record C { kept = insert m e C.kept })

  -- either has come
  abbrev pub after_arrival : Core E → Signed E → Core E
  after_arrival C x = cond x.plus (after_message C x.event) (after_antimessage C x.event)

  -- the message at place k, from 0, has left the flight and come
  abbrev pub after_delivery : Core E → ℕ → Signed E → Core E
  after_delivery C k x = after_arrival (record C { flight = remove C.flight k }) x

  -- the least of a time and of the times of some events
  abbrev pub least_time : List E → ℕ → ℕ
  least_time [] t = t
  least_time (x ∷ xs) t = min (m.time x) (least_time xs t)

  -- the least time of all that is loose, and of the stop
  abbrev pub least_loose : Core E → ℕ
  least_loose C = least_time C.pending (least_time C.kept (least_time (map (λ x. x.event) C.flight) (least_time C.held C.stop)))

  -- ---- when it is refused

  -- the first of r's pending events
  abbrev pub first_pending : Core E → ℕ → Option E
  first_pending C r = ordered.least m.before (only m r C.pending)

  -- whether e is the newest of a history
  abbrev pub is_newest : E → List E → Bool
  is_newest e [] = false
  is_newest e (x ∷ older) = m.same e x

  -- r handles this event, its first pending one
  abbrev pub handle : Core E → ℕ → Option E → Result (Core E) Refusal
  handle C r None = Err Nothing
  handle C r (Some e) =
      if nat_lt (m.time e) C.stop
      then (if is_newest e (C.history r) then Err Double
      else (if nat_lt (count_ahead C r) (C.room r)
      then (if m.full (state m r (C.history r)) e then Err CounterFull
      else Ok (after_handling C r e))
      else Err AheadFull))
      else Err Nothing

  -- r undoes the newest event of its history, which is this one
  abbrev pub undo : Core E → ℕ → List E → Result (Core E) Refusal
  undo C r [] = Err Nothing
  undo C r (e ∷ older) =
      if nat_lt (m.time e) (C.done r) || nat_lt (m.time e) C.bound
      then Err Committed
      else Ok (after_undoing C r e older)

  -- this message is delivered, the one at place k in flight, from 0
  abbrev pub deliver : Core E → ℕ → Option (Signed E) → Result (Core E) Refusal
  deliver C k None = Err NoMessage
  deliver C k (Some x) = Ok (after_delivery C k x)

  -- the bound becomes the least time of all that is loose, and of the stop
  abbrev pub with_bound : Core E → Core E
  with_bound C = record C { bound = least_loose C }

  -- r's events below the bound, the oldest of its history, are committed
  abbrev pub with_commit : Core E → ℕ → Core E
  with_commit C r = record C { done = put C.done r C.bound; past = put C.past r (suffix_len (λ e. nat_lt (m.time e) C.bound) (C.history r)) }

  -- r has twice the room; no step does this, but a caller may
  abbrev pub with_room : Core E → ℕ → Core E
  with_room C r = record C { room = put C.room r (2 * C.room r) }

  -- what r sent, of a list
  abbrev pub from : ℕ → List E → List E
  from r xs = filter (λ x. m.src x == r) xs

  -- and what others sent
  abbrev pub from_others : ℕ → List E → List E
  from_others r xs = filter (λ x. not (m.src x == r)) xs

  -- what is held for r is taken back
  abbrev pub with_release : Core E → ℕ → Core E
  with_release C r = record C { flight = C.flight ++ map antimessage (from r C.held); held = from_others r C.held }

  -- a step at router r, refused where there is no such router
  abbrev pub at_router : ℕ → Result (Core E) Refusal → Result (Core E) Refusal
  at_router r outcome = if nat_lt r m.routers then outcome else Err NotMine

  -- a step: the new state, or why it is refused; messages in flight have places from 1 on
  abbrev pub step : Core E → Step → Result (Core E) Refusal
  step C (Handle r) = at_router r (handle C r (first_pending C r))
  step C (Undo r) = at_router r (undo C r (C.history r))
  step C (Deliver zero) = Err NoMessage
  step C (Deliver (suc k)) = deliver C k (slice_get C.flight k)
  step C Bound = Ok (with_bound C)
  step C (Commit r) = at_router r (Ok (with_commit C r))
  step C (Release r) = at_router r (Ok (with_release C r))

  -- ---- lists of steps

  -- the state after a step; a refused one changes nothing
  abbrev pub next : Core E → Step → Core E
  next C x = result_unwrap_or (step C x) C

  -- the state after a list of steps
  abbrev pub run : Core E → List Step → Core E
  run C [] = C
  run C (x ∷ xs) = run (next C x) xs

  -- whether each step of a list was done, or why not
  abbrev pub answers : Core E → List Step → List (Result (Unit {0}) Refusal)
  answers C [] = []
  answers C (x ∷ xs) = result_and (step C x) (Ok tt) ∷ answers (next C x) xs
