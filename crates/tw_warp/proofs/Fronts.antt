-- What a shard's step leaves where more messages stand before its own: nothing of it reads them, and what it sends stands behind all.
use Rattle.std.proofs.Common.{◌≡◌, ◌↔◌, ℕ, zero, suc, ◌||◌, Bool, true, false, List, [], ◌∷◌, ◌++◌, append_assoc, map, nat_lt, Option, Some, None, Result, Ok, Err, if◌then◌else◌, refl, ap, sym, ◌∙◌, subst, inl, inr}
use Rattle.std.specs.Prelude.{OnOk}
use Rattle.std.proofs.lemmas.Bool.{cases_Bool}
use Rattle.tw_core.specs.declared.refusal.Refusal.{Refusal}
use Rattle.tw_core.specs.declared.refusal.Refusal.TheVariants.{NotMine}
use Rattle.tw_core.specs.Machine.{Core, count_ahead}
use Rattle.tw_core.specs.Steps.{after_arrival, after_handling, after_undoing, antimessage, first_pending, from, handle, is_newest, message, sent_back, to_send, undo, with_commit, with_release, with_room}
use Rattle.tw_core.proofs.Wording.{arrival-front}
use Rattle.tw_event.specs.declared.event.Event.{Event}
use Rattle.tw_model.specs.Case.{simulation}
use Rattle.tw_model.specs.declared.memory.OrMemory.{OrMemory}
use Rattle.tw_shard.specs.Arrival.{AreUndone, IsRolledBack}
use Rattle.tw_shard.specs.Commit.{committing}
use Rattle.tw_shard.specs.Shard.{Shard, handling, owns, releasing, shard_core, undoing, widening}
use Rattle.tw_sim.specs.declared.machine.Signed.{Signed}
use Rattle.tw_sim.specs.Simulation.{Simulation, state}
use Rattle.tw_warp.specs.Calls.{calling}
use Rattle.tw_warp.specs.declared.calls.RouterCall.{RouterCall}
use Rattle.tw_warp.specs.declared.calls.RouterCall.TheVariants.{Commit, Handle, Release, Undo, Widen}
use Rattle.tw_warp.specs.Warp.{behind}

module _ {E : Type 0} (front : List (Signed E)) where
  -- with these messages before its own in flight
  abbrev pub fronted : Core E → Core E
  fronted C = record C { flight = front ++ C.flight }

  abbrev pub outcome_fronted : Result (Core E) Refusal → Result (Core E) Refusal
  outcome_fronted (Ok C) = Ok (fronted C)
  outcome_fronted (Err f) = Err f

  own_fronted : (own : Bool) (o : Result (Core E) Refusal) → (if own then outcome_fronted o else Err NotMine) ≡ outcome_fronted (if own then o else Err NotMine)
  own_fronted true o = refl
  own_fronted false o = refl

  refused_fronted : (o : Result (Core E) Refusal) (f : Refusal) → outcome_fronted o ≡ Err f → o ≡ Err f
  refused_fronted (Ok C) f h = cc
  refused_fronted (Err g) f h = h

  module _ {S : Type 0} (m : Simulation S E) where
    handling_fronted : (C : Core E) (r : ℕ) (e : E) → after_handling m (fronted C) r e ≡ fronted (after_handling m C r e)
    handling_fronted C r e =
        ap (λ f. record (after_handling m C r e) { flight = f }) (append_assoc front C.flight (map message (to_send m (m.sends (state m r (C.history r)) e) C.held)))

    undoing_fronted : (C : Core E) (r : ℕ) (e : E) (older : List E) → after_undoing m (fronted C) r e older ≡ fronted (after_undoing m C r e older)
    undoing_fronted C r e older =
        ap (λ f. record (after_undoing m C r e older) { flight = f }) (append_assoc front C.flight (sent_back m C.cancel (m.sends (state m r older) e)))

    handle_fronted : (C : Core E) (r : ℕ) (o : Option E) → handle m (fronted C) r o ≡ outcome_fronted (handle m C r o)
    handle_fronted C r None = refl
    handle_fronted C r (Some e) =
        elim (cases_Bool (nat_lt (m.time e) C.stop)) [
          | inl soon ↦ elim (cases_Bool (is_newest m e (C.history r))) [
            | inl double ↦ rw (soon, double) refl
            | inr new ↦ elim (cases_Bool (nat_lt (count_ahead C r) (C.room r))) [
              | inl place ↦ elim (cases_Bool (m.full (state m r (C.history r)) e)) [
                | inl full ↦ rw (soon, new, place, full) refl
                | inr fits ↦ rw (soon, new, place, fits) (ap Ok (handling_fronted C r e))
              ]
              | inr none ↦ rw (soon, new, none) refl
            ]
          ]
          | inr late ↦ rw late refl
        ]

    undo_fronted : (C : Core E) (r : ℕ) (xs : List E) → undo m (fronted C) r xs ≡ outcome_fronted (undo m C r xs)
    undo_fronted C r [] = refl
    undo_fronted C r (e ∷ older) =
        elim (cases_Bool (nat_lt (m.time e) (C.done r) || nat_lt (m.time e) C.bound)) [
          | inl early ↦ rw early refl
          | inr late ↦ rw late (ap Ok (undoing_fronted C r e older))
        ]

    release_fronted : (C : Core E) (r : ℕ) → with_release m (fronted C) r ≡ fronted (with_release m C r)
    release_fronted C r = ap (λ f. record (with_release m C r) { flight = f }) (append_assoc front C.flight (map antimessage (from m r C.held)))

    undone_fronted : (n : ℕ) (x : E) (C D : Core E) → AreUndone m n x C D → AreUndone m n x (fronted C) (fronted D)
    undone_fronted zero x C D h = ap fronted h
    undone_fronted (suc n) x C D h =
        let e = h.2.0 in
        let older = h.2.1 in
        (fronted h.0, undone_fronted n x C h.0 h.1, (e, older, h.2.2, h.2.3, ap fronted h.2.4 ∙ sym (undoing_fronted h.0 (m.dst x) e older)))

-- ---- of a shard

module _ (front : List (Signed Event)) where
  -- what a call does does not depend on these messages
  abbrev pub IsBlindTo : (Shard → Result (Core Event) Refusal) → Type 0
  IsBlindTo call = (s : Shard) (xs : List (Signed Event)) → call (behind s (front ++ xs)) ≡ outcome_fronted front (call (behind s xs))

  handling_blind : (stop r : ℕ) → IsBlindTo (λ s. handling stop s r)
  handling_blind stop r s xs =
      let m = simulation s.terms.case in
      let C = shard_core stop (behind s xs) in
      ap (λ o. if owns s r then o else Err NotMine) (handle_fronted front m C r (first_pending m C r)) ∙ own_fronted front (owns s r) (handle m C r (first_pending m C r))

  undoing_blind : (stop r : ℕ) → IsBlindTo (λ s. undoing stop s r)
  undoing_blind stop r s xs =
      let m = simulation s.terms.case in
      let C = shard_core stop (behind s xs) in
      ap (λ o. if owns s r then o else Err NotMine) (undo_fronted front m C r (C.history r)) ∙ own_fronted front (owns s r) (undo m C r (C.history r))

  committing_blind : (stop r : ℕ) → IsBlindTo (λ s. committing stop s r)
  committing_blind stop r s xs = let m = simulation s.terms.case in let C = shard_core stop (behind s xs) in own_fronted front (owns s r) (Ok (with_commit m C r))

  releasing_blind : (stop r : ℕ) → IsBlindTo (λ s. releasing stop s r)
  releasing_blind stop r s xs =
      let m = simulation s.terms.case in
      let C = shard_core stop (behind s xs) in
      ap (λ D. if owns s r then Ok D else Err NotMine) (release_fronted front m C r) ∙ own_fronted front (owns s r) (Ok (with_release m C r))

  widening_blind : (stop r : ℕ) → IsBlindTo (λ s. widening stop s r)
  widening_blind stop r s xs = let m = simulation s.terms.case in let C = shard_core stop (behind s xs) in own_fronted front (owns s r) (Ok (with_room m C r))

  pub calling_blind : (call : RouterCall) (stop r : ℕ) → IsBlindTo (λ s. calling call stop s r)
  calling_blind Handle stop r = handling_blind stop r
  calling_blind Undo stop r = undoing_blind stop r
  calling_blind Commit stop r = committing_blind stop r
  calling_blind Release stop r = releasing_blind stop r
  calling_blind Widen stop r = widening_blind stop r

  -- a shard s is lent these messages xs of all, is then the one called, and gives them back as ys
  module _ (s lent called back : Shard) (xs ys all : List (Signed Event)) (put : lent ≡ behind s xs) (taken : behind back ys ≡ called) (was : front ++ xs ≡ all) (stop : ℕ) where
    -- what a call did behind a part it did behind all
    blind_call : (call : Shard → Result (Core Event) Refusal) → IsBlindTo call → call (behind s all) ≡ outcome_fronted front (call lent)
    blind_call call blind = ap (λ f. call (behind s f)) (sym was) ∙ (blind s xs ∙ ap (λ t. outcome_fronted front (call t)) (sym put))

    left : fronted front (shard_core stop called) ≡ shard_core stop (behind back (front ++ ys))
    left = ap (λ t. fronted front (shard_core stop t)) (sym taken)

    pub went : (call : Shard → Result (Core Event) Refusal) → IsBlindTo call → (result : Result (Unit {0}) (OrMemory Refusal))
        → OnOk result (call lent ≡ Ok (shard_core stop called)) → OnOk result (call (behind s all) ≡ Ok (shard_core stop (behind back (front ++ ys))))
    went call blind (Ok u) did = blind_call call blind ∙ (ap (outcome_fronted front) did ∙ ap Ok left)
    went call blind (Err e) did = tt

    pub refused : (call : Shard → Result (Core Event) Refusal) → IsBlindTo call → (P : Type 0) (f : Refusal) → P ↔ (call lent ≡ Err f) → P ↔ (call (behind s all) ≡ Err f)
    refused call blind P f told = (
      (λ p. blind_call call blind ∙ ap (outcome_fronted front) (told.0 p)),
      (λ h. told.1 (refused_fronted front (call lent) f (sym (blind_call call blind) ∙ h))),
    )

    -- the same of a message that came
    pub came : (x : Signed Event) → after_arrival (simulation s.terms.case) (shard_core stop (behind s xs)) x ≡ shard_core stop called
        → after_arrival (simulation s.terms.case) (shard_core stop (behind s all)) x ≡ shard_core stop (behind back (front ++ ys))
    came x h =
        let m = simulation s.terms.case in
        ap (λ f. after_arrival m (shard_core stop (behind s f)) x) (sym was) ∙ (arrival-front m (shard_core stop (behind s xs)) x front ∙ (ap (fronted front) h ∙ left))

    pub rolled_back : (e : Event) → IsRolledBack (simulation s.terms.case) e (shard_core stop (behind s xs)) (shard_core stop called)
        → IsRolledBack (simulation s.terms.case) e (shard_core stop (behind s all)) (shard_core stop (behind back (front ++ ys)))
    rolled_back e h =
        let m = simulation s.terms.case in (
          h.0,
          subst (λ f. AreUndone m h.0 e (shard_core stop (behind s f)) (shard_core stop (behind back (front ++ ys)))) was
              (subst (λ D. AreUndone m h.0 e (shard_core stop (behind s (front ++ xs))) D) left (undone_fronted front m h.0 e (shard_core stop (behind s xs)) (shard_core stop called) h.1)),
        )
