-- What a message that is delivered leaves of the machine, and what is left where memory was refused to it.
use Rattle.std.proofs.Common.{◌≡◌, ℕ, zero, suc, ◌-◌, not, cond, ◌<◌, ◌≤◌, ◌==◌, ◌||◌, Bool, true, false, List, [], ◌∷◌, ◌++◌, length, remove, nat_lt, slice_get, append_assoc, Some, None, Ok, Err, if◌then◌else◌, refl, ap, sym, ◌∙◌, subst, inl, inr, arith}
use Rattle.std.proofs.lemmas.Bool.{cases_Bool, eq-eqb, le-ltb, lt-ltb}
use Rattle.std.proofs.lemmas.List.{append-nil, length-append}
use Rattle.std.proofs.lemmas.Option.{slice_get_within}
use Rattle.std.specs.Result.{result_unwrap_or}
use Rattle.tw_core.specs.declared.refusal.Refusal.TheVariants.{Committed, NoMessage, NotMine}
use Rattle.tw_core.specs.Good.{IsGood}
use Rattle.tw_core.specs.Machine.{AreCounted, Core}
use Rattle.tw_core.specs.Parts.{IsOwn}
use Rattle.tw_core.specs.Steps.{after_antimessage, after_arrival, after_message, after_undoing, after_undoing_while, deliver, next, sent_back, step, undo}
use Rattle.tw_core.proofs.Counted.{next_counted, step_counted}
use Rattle.tw_core.proofs.Own.{own_arrival, own_undoing}
use Rattle.tw_core.proofs.Steps.{next_keeps, step_keeps}
use Rattle.tw_core.proofs.Steps as core_steps
use Rattle.tw_core.proofs.Wording.{arrival-front}
use Rattle.tw_event.specs.declared.event.Event.{Event}
use Rattle.tw_model.proofs.Lawful.{numbered}
use Rattle.tw_model.specs.Case.{simulation}
use Rattle.tw_shard.specs.Arrival.{AreUndone, IsRolledBack, refusing}
use Rattle.tw_shard.specs.Shard.{IsSameShare, Shard, shard_core}
use Rattle.tw_sim.specs.declared.machine.Signed.{Signed}
use Rattle.tw_sim.specs.declared.machine.Step.TheVariants.{Deliver, Undo}
use Rattle.tw_sim.specs.Simulation.{Simulation, IsLawful, IsNumbered, state, times}
use Rattle.tw_sim.proofs.Counts.{in_head}
use Rattle.tw_sim.proofs.Rising.{IsRising}
use Rattle.tw_warp.specs.Warp.{IsCutShort, IsWarp, Warp, after_undos, behind, lent, message_at, shard_at, warp_core, worker_with}
use Rattle.tw_warp.proofs.Held.{rising_arrival, rising_undoing}
use Rattle.tw_warp.proofs.InChunks.{before_others}
use Rattle.tw_warp.proofs.Joined.{joined, rest, rest_apart, with_shard}
use Rattle.tw_warp.proofs.Moves.{deliver_step, law, next_is, now, own_lent, part, welcome_there}
use Rattle.tw_warp.proofs.Whole.{IsApart, Rest, same_history, undoing_whole, whole}

module _ {S E : Type 0} (m : Simulation S E) (law : IsLawful m) where
  -- an event that is not before another is at its time or later
  not_early : (x e : E) → m.before e x ≡ false → m.time x ≤ m.time e
  not_early x e h =
      elim (cases_Bool (m.before x e)) [
        | inl before ↦ law.timely x e before
        | inr neither ↦ (let same = ap m.time (law.total x e neither h) in omega arith)
      ]

  -- an undo step that is not refused
  undo_goes : (W : Core E) (r : ℕ) (e : E) (older : List E) → r < m.routers → W.history r ≡ e ∷ older → W.done r ≤ W.bound → W.bound ≤ m.time e
      → next m W (Undo r) ≡ after_undoing m W r e older
  undo_goes W r e older there newest done late =
      let early : (nat_lt (m.time e) (W.done r) || nat_lt (m.time e) W.bound) ≡ false =
      rw (le-ltb (m.time e) (W.done r) (omega arith), le-ltb (m.time e) W.bound late) refl in
      ap (λ b. result_unwrap_or (if b then undo m W r (W.history r) else Err NotMine) W) (lt-ltb r m.routers there)
      ∙ (ap (λ xs. result_unwrap_or (undo m W r xs) W) newest
      ∙ ap (λ b. result_unwrap_or (if b then Err Committed else Ok (after_undoing m W r e older)) W) early)

  -- what a part has become by undoing, beside the rest
  record IsUndoneTo (X : Rest E) (x : E) (n : ℕ) (C D : Core E) : Type 0 where
    pub whole_is : whole m X D ≡ after_undos m n (m.dst x) (whole m X C)
    pub good : IsGood m (whole m X D)
    pub own : IsOwn m X.mine D
    pub bound : D.bound ≡ C.bound
    pub held : IsRising m D.held
    pub sent : (back : _) × (D.flight ≡ C.flight ++ back)

  undone_to : (X : Rest E) (apart : IsApart m X) (x : E) (n : ℕ) (C D : Core E) → X.mine (m.dst x) ≡ true → m.dst x < m.routers → C.bound ≤ m.time x
      → IsRising m C.held → IsGood m (whole m X C) → IsOwn m X.mine C → AreUndone m n x C D → IsUndoneTo X x n C D
  undone_to X apart x zero C D mine there late rising good own h =
      subst (IsUndoneTo X x zero C) (sym h) (record { whole_is = refl; good = good; own = own; bound = refl; held = rising; sent = ([], sym (append-nil C.flight)) })
  undone_to X apart x (suc n) C D mine there late rising good own h =
      let B = h.0 in
      let old = undone_to X apart x n C B mine there late rising good own h.1 in
      let e = h.2.0 in
      let older = h.2.1 in
      let r = m.dst x in
      let here : (whole m X B).history r ≡ e ∷ older = same_history m law X apart B r mine ∙ h.2.2 in
      let bound = old.bound in
      let time = not_early x e h.2.3 in
      let goes = undo_goes (whole m X B) r e older there here (old.good.done r) (omega arith) in
      let home : m.dst e ≡ r = old.good.home r e (subst (λ xs. 0 < times m e xs) (sym here) (in_head m law e older)) in
      let reached : whole m X (after_undoing m B r e older) ≡ next m (whole m X B) (Undo r) = sym (undoing_whole m law X apart B r e older mine) ∙ sym goes in
      subst (IsUndoneTo X x (suc n) C) (sym h.2.4) (record {
        whole_is = reached ∙ ap (λ W. next m W (Undo r)) old.whole_is;
        good = subst (IsGood m) (sym reached) (next_keeps m law (whole m X B) (Undo r) old.good).good;
        own = own_undoing m law X.mine B r e older home h.2.2 old.own;
        bound = old.bound;
        held = rising_undoing m law B r e older old.held;
        sent = (
          old.sent.0 ++ sent_back m B.cancel (m.sends (state m r older) e),
          ap (λ f. f ++ sent_back m B.cancel (m.sends (state m r older) e)) old.sent.1
              ∙ append_assoc C.flight old.sent.0 (sent_back m B.cancel (m.sends (state m r older) e)),
        );
      })

  -- undo steps leave the machine good, and it counts right
  undos_counted : IsNumbered m → (n r : ℕ) (C : Core E) → IsGood m C → AreCounted m C → IsGood m (after_undos m n r C) × AreCounted m (after_undos m n r C)
  undos_counted unique zero r C good counted = (good, counted)
  undos_counted unique (suc n) r C good counted =
      let old = undos_counted unique n r C good counted in
      ((next_keeps m law (after_undos m n r C) (Undo r) old.0).good, next_counted m law unique (after_undos m n r C) (Undo r) old.0 old.1)

  while_bound : (test : E → Bool) (r : ℕ) (xs : List E) (C : Core E) → (after_undoing_while m test r xs C).bound ≡ C.bound
  while_bound test r [] C = refl
  while_bound test r (e ∷ older) C =
      elim (cases_Bool (test e)) [
        | inl goes ↦ rw goes (while_bound test r older (after_undoing m C r e older))
        | inr stays ↦ rw stays refl
      ]

  -- what comes leaves the bound
  arrival_bound : (C : Core E) (x : Signed E) → (after_arrival m C x).bound ≡ C.bound
  arrival_bound C x = go x.plus where
    go : (plus : Bool) → (cond plus (after_message m C x.event) (after_antimessage m C x.event)).bound ≡ C.bound
    go true =
        elim (cases_Bool (nat_lt 0 (times m x.event C.kept))) [
          | inl some ↦ rw some refl
          | inr unkept ↦ rw unkept (while_bound (λ y. m.before x.event y) (m.dst x.event) (C.history (m.dst x.event)) C)
        ]
    go false =
        elim (cases_Bool (nat_lt 0 (times m x.event C.pending))) [
          | inl some ↦ rw some refl
          | inr absent ↦ rw absent (elim (cases_Bool (nat_lt 0 (times m x.event (C.history (m.dst x.event))))) [
            | inl handled ↦ rw handled (while_bound (λ y. not (m.before y x.event)) (m.dst x.event) (C.history (m.dst x.event)) C)
            | inr unhandled ↦ rw unhandled refl
          ])
        ]

-- ---- of the machine

-- no message is at this place
pub none_there : (w : Warp) (place : ℕ) → message_at w.flight place ≡ None → step (simulation w.case) (warp_core w) (Deliver place) ≡ Err NoMessage
none_there w zero none = refl
none_there w (suc j) none = ap (deliver (simulation w.case) (warp_core w) j) none

module _ (w : Warp) (is : IsWarp w) (k : ℕ) (within : k < length w.shards) where
  -- a message at a place may come
  pub may_come : (place : ℕ) (x : Signed Event) → message_at w.flight place ≡ Some x → worker_with w x.event.dst ≡ k → refusing (shard_at w k) x.event ≡ Ok tt
  may_come zero x there mine = cc there
  may_come (suc j) x there mine =
      let fine = core_steps.welcome (simulation w.case) (law w is) (warp_core w) j x is.good there in
      welcome_there w is k within x fine.0 fine.1 fine.2 mine

  -- what is known once the shard and the messages on their way have come back
  pub record IsBackFrom (s : Shard) : Type 0 where
    pub same : IsSameShare (shard_at w k) s
    pub none : s.outgoing ≡ []

  same_cancel : (s : Shard) → IsBackFrom s → s.terms.cancel ≡ w.cancel
  same_cancel s back = ap (λ x. x.cancel) back.same.terms ∙ (is.shares k within).cancel

  -- the machine with that shard
  next_good : (s : Shard) (flight : List (Signed Event)) → IsBackFrom s → s.bound ≡ w.bound → IsRising (simulation w.case) s.held → IsOwn (simulation w.case) (λ r. worker_with w r == k) (shard_core w.stop s)
      → IsGood (simulation w.case) (warp_core (with_shard w k s flight)) → AreCounted (simulation w.case) (warp_core (with_shard w k s flight)) → IsWarp (with_shard w k s flight)
  next_good s flight back bound rising own good counted =
      let bare : with_shard w k (record s { outgoing = [] }) flight ≡ with_shard w k s flight = λ i. with_shard w k (record s { outgoing = sym back.none i }) flight in
      subst IsWarp bare (next_is w is k s flight within back.same bound rising own (subst (λ v. IsGood (simulation w.case) (warp_core v)) (sym bare) good)
      (subst (λ v. AreCounted (simulation w.case) (warp_core v)) (sym bare) counted))

  -- the message has come, and leaves the flight
  pub record IsDelivered (place j : ℕ) (s : Shard) (flight : List (Signed Event)) : Type 0 where
    pub did : step (simulation w.case) (warp_core w) (Deliver place) ≡ Ok (warp_core (with_shard w k s (remove flight j)))
    pub good : IsWarp (with_shard w k s (remove flight j))

  delivered_at : (j : ℕ) (x : Signed Event) (s : Shard) (flight : List (Signed Event)) → slice_get w.flight j ≡ Some x → worker_with w x.event.dst ≡ k
      → IsBackFrom s → after_arrival (simulation w.case) (shard_core w.stop (lent w k)) x ≡ shard_core w.stop (behind s flight) → IsDelivered (suc j) j s flight
  delivered_at j x s flight there mine back came =
      let m = simulation w.case in
      let C = shard_core w.stop (lent w k) in
      let bound : s.bound ≡ w.bound = sym (ap (λ (D : Core Event). D.bound) came) ∙ (arrival_bound m (law w is) C x ∙ (is.shares k within).bound) in
      let arrived = subst (IsOwn m (λ r. worker_with w r == k)) came
      (own_arrival m (law w is) (λ r. worker_with w r == k) w.bound C x (part w is k within) (own_lent w is k within) (eq-eqb (worker_with w x.event.dst) k mine)) in
      let own : IsOwn m (λ r. worker_with w r == k) (shard_core w.stop s) = record { history = arrived.history; waiting = arrived.waiting; held = arrived.held } in
      let did : step m (warp_core w) (Deliver (suc j)) ≡ Ok (warp_core (with_shard w k s (remove flight j))) =
      deliver_step w is k within j x (behind s flight) there mine came ∙ ap Ok (sym (joined w is.case k within s (remove flight j) bound (same_cancel s back))) in
      let rising = subst (λ (D : Core Event). IsRising m D.held) came (rising_arrival m (law w is) C x (is.shares k within).held) in
      record {
        did = did;
        good = next_good s (remove flight j) back bound rising own (step_keeps m (law w is) (warp_core w) (warp_core (with_shard w k s (remove flight j))) (Deliver (suc j)) is.good did).good
            (step_counted m (law w is) (numbered w.case is.case) (warp_core w) (warp_core (with_shard w k s (remove flight j))) (Deliver (suc j)) is.good did is.counted);
      }

  pub delivered : (place j : ℕ) → suc j ≡ place → (x : Signed Event) (s : Shard) (flight : List (Signed Event)) → message_at w.flight place ≡ Some x → worker_with w x.event.dst ≡ k
      → IsBackFrom s → after_arrival (simulation w.case) (shard_core w.stop (lent w k)) x ≡ shard_core w.stop (behind s flight) → IsDelivered place j s flight
  delivered place j next x s flight there mine back came =
      subst (λ p. message_at w.flight p ≡ Some x → IsDelivered p j s flight) next (λ at. delivered_at j x s flight at mine back came) there

  -- memory was refused: some undo steps stand, and the message is where it was
  pub record IsCut (place : ℕ) (s : Shard) (flight : List (Signed Event)) : Type 0 where
    pub cut : IsCutShort (simulation w.case) place (warp_core w) (warp_core (with_shard w k s flight))
    pub good : IsWarp (with_shard w k s flight)

  pub cut_short : (place : ℕ) (x : Signed Event) (s : Shard) (flight : List (Signed Event)) → message_at w.flight place ≡ Some x → worker_with w x.event.dst ≡ k
      → IsBackFrom s → IsRolledBack (simulation w.case) x.event (shard_core w.stop (lent w k)) (shard_core w.stop (behind s flight)) → IsCut place s flight
  cut_short zero x s flight there mine back h = cc there
  cut_short (suc j) x s flight there mine back h =
      let m = simulation w.case in
      let C = shard_core w.stop (lent w k) in
      let fine = core_steps.welcome m (law w is) (warp_core w) j x is.good there in
      let early : C.bound ≤ x.event.time = subst (λ b. b ≤ x.event.time) (sym (is.shares k within).bound) fine.0 in
      let to = undone_to m (law w is) (rest w k) (rest_apart w is.case k within is.shares) x.event h.0 C (shard_core w.stop (behind s flight))
      (eq-eqb (worker_with w x.event.dst) k mine) fine.1 early (is.shares k within).held (subst (IsGood m) (now w is k within) is.good) (own_lent w is k within) h.1 in
      let bound : s.bound ≡ w.bound = to.bound ∙ (is.shares k within).bound in
      let own : IsOwn m (λ r. worker_with w r == k) (shard_core w.stop s) = record { history = to.own.history; waiting = to.own.waiting; held = to.own.held } in
      let reached : warp_core (with_shard w k s flight) ≡ whole m (rest w k) (shard_core w.stop (behind s flight)) = joined w is.case k within s flight bound (same_cancel s back) in
      let undone = reached ∙ (to.whole_is ∙ ap (after_undos m h.0 x.event.dst) (sym (now w is k within))) in
      let counted = undos_counted m (law w is) (numbered w.case is.case) h.0 x.event.dst (warp_core w) is.good is.counted in
      let stays : slice_get flight j ≡ Some x = ap (λ f. slice_get f j) to.sent.1 ∙ (before_others w.flight to.sent.0 j (slice_get_within w.flight j x there) ∙ there) in
      record {
        cut = record {
          message = x;
          count = h.0;
          there = there;
          stays = stays;
          undone = undone;
        };
        good = next_good s flight back bound to.held own (subst (IsGood m) (sym reached) to.good) (subst (AreCounted m) (sym undone) counted.1);
      }

  came_from : (at s : Shard) → at ≡ shard_at w k → IsSameShare at s → s.outgoing ≡ at.outgoing → IsBackFrom s
  came_from at s there same out = record {
    same = subst (λ a. IsSameShare a s) there same;
    none = out ∙ (ap (λ a. a.outgoing) there ∙ (is.shares k within).outgoing);
  }

  -- the messages on their way are there still, and what goes out stands behind them
  pub longer : (at s : Shard) (x : Signed Event) (flight : List (Signed Event)) → after_arrival (simulation at.terms.case) (shard_core w.stop (behind at w.flight)) x ≡ shard_core w.stop (behind s flight)
      → length w.flight ≤ length flight
  longer at s x flight came =
      let m = simulation at.terms.case in
      let C = shard_core w.stop (behind at w.flight) in
      let bare : Core Event = record C { flight = [] } in
      let back = (after_arrival m bare x).flight in
      let arrived : after_arrival m C x ≡ record (after_arrival m bare x) { flight = w.flight ++ back } =
      ap (λ f. after_arrival m (record C { flight = f }) x) (sym (append-nil w.flight)) ∙ arrival-front m bare x w.flight in
      let same : length flight ≡ length (w.flight ++ back) = ap (λ (D : Core Event). length D.flight) (sym came ∙ arrived) in
      let both = length-append w.flight back in
      omega arith

  -- the same, as the code tells it
  pub goes_home : (place j : ℕ) → suc j ≡ place → (x : Signed Event) (at s : Shard) (flight : List (Signed Event)) → message_at w.flight place ≡ Some x → worker_with w x.event.dst ≡ k
      → at ≡ shard_at w k → IsSameShare at s → s.outgoing ≡ at.outgoing
      → after_arrival (simulation at.terms.case) (shard_core w.stop (behind at w.flight)) x ≡ shard_core w.stop (behind s flight) → IsDelivered place j s flight
  goes_home place j next x at s flight message mine there same out came =
      delivered place j next x s flight message mine (came_from at s there same out)
      (ap (λ case. after_arrival (simulation case) (shard_core w.stop (lent w k)) x) (sym (is.shares k within).case)
      ∙ subst (λ a. after_arrival (simulation a.terms.case) (shard_core w.stop (behind a w.flight)) x ≡ shard_core w.stop (behind s flight)) there came)

  pub stops_short : (place : ℕ) (x : Signed Event) (at s : Shard) (flight : List (Signed Event)) → message_at w.flight place ≡ Some x → worker_with w x.event.dst ≡ k
      → at ≡ shard_at w k → IsSameShare at s → s.outgoing ≡ at.outgoing
      → IsRolledBack (simulation at.terms.case) x.event (shard_core w.stop (behind at w.flight)) (shard_core w.stop (behind s flight)) → IsCut place s flight
  stops_short place x at s flight message mine there same out h =
      cut_short place x s flight message mine (came_from at s there same out)
      (subst (λ case. IsRolledBack (simulation case) x.event (shard_core w.stop (lent w k)) (shard_core w.stop (behind s flight))) (is.shares k within).case
      (subst (λ a. IsRolledBack (simulation a.terms.case) x.event (shard_core w.stop (behind a w.flight)) (shard_core w.stop (behind s flight))) there h))

-- a message found has a place from 1 on, within the messages on their way
pub place_there : (flight : List (Signed Event)) (place : ℕ) (x : Signed Event) → message_at flight place ≡ Some x → (0 < place) × (place - 1 < length flight)
place_there flight zero x h = cc h
place_there flight (suc j) x h = let within = slice_get_within flight j x h in (omega arith, omega arith)
