-- What a turn at a router leaves of the machine.
use Rattle.std.proofs.Common.{◌≡◌, ℕ, zero, suc, ◌∷◌, get_or, ◌↔◌, ◌<◌, ◌≤◌, ◌==◌, Bool, true, false, List, [], length, nat_lt, if◌then◌else◌, arith, Result, Ok, Err, refl, ap, sym, ◌∙◌, subst}
use Rattle.std.specs.Prelude.{IsErrOf, OnErr, OnOk}
use Rattle.tw_core.specs.declared.refusal.Refusal.{Refusal}
use Rattle.tw_model.specs.declared.memory.OrMemory.{OrMemory}
use Rattle.tw_model.specs.declared.memory.OrMemory.TheVariants as or_memory
use Rattle.tw_core.specs.declared.refusal.Refusal.TheVariants.{NotMine}
use Rattle.tw_core.specs.Machine.{AreCounted, Core}
use Rattle.tw_core.specs.Parts.{IsOwn}
use Rattle.tw_core.specs.Good.{IsGood}
use Rattle.tw_core.specs.Steps.{at_router, first_pending, handle, step, undo, with_commit, with_release, with_room}
use Rattle.tw_core.specs.Run.{IsSeq}
use Rattle.tw_core.proofs.Counted.{step_counted}
use Rattle.tw_core.proofs.Headline.{good_is_seq}
use Rattle.tw_core.proofs.Own.{own_handle, own_release, own_undo}
use Rattle.tw_core.proofs.Steps.{good_further, handle_keeps, step_keeps, undo_keeps, widen_keeps}
use Rattle.tw_event.specs.declared.event.Event.{Event}
use Rattle.tw_event.specs.Order.{event_before, event_same}
use Rattle.tw_model.specs.Case.{simulation}
use Rattle.tw_model.specs.declared.limits.TheConstants.{LATEST}
use Rattle.tw_model.proofs.Lawful.{lawful, numbered}
use Rattle.tw_shard.specs.Commit.{committing}
use Rattle.tw_shard.specs.Shard.{IsSameShare, Shard, handling, owns, releasing, shard_core, undoing, widening}
use Rattle.tw_shard.specs.Shard as share
use Rattle.tw_sim.specs.declared.machine.Signed.{Signed}
use Rattle.tw_sim.specs.declared.machine.Step.{Step}
use Rattle.tw_sim.specs.Rising.{IsRising}
use Rattle.tw_sim.specs.Simulation.{IsLawful, Simulation}
use Rattle.tw_sim.specs.declared.machine.Step.TheVariants.{Commit, Handle, Release, Undo}
use Rattle.tw_warp.specs.Calls.{after_call, calling}
use Rattle.tw_warp.specs.declared.calls.RouterCall.{RouterCall}
use Rattle.tw_warp.specs.declared.calls.RouterCall.TheVariants as calls
use Rattle.tw_warp.specs.Warp.{IsWarp, Warp, behind, lent, no_shard, shard_at, warp_core, worker_with}
use Rattle.tw_warp.proofs.Held.{rising_handle, rising_release, rising_undo}
use Rattle.tw_warp.proofs.Joined.{rest, set_same, with_shard}
use Rattle.tw_warp.proofs.Moves.{commit_step, given_back, handle_step, later, law, next_is, own_lent, part, release_step, undo_step, widen_step}
use Rattle.tw_warp.proofs.Whole.{Rest, lift}

-- a call at worker k's shard has left this shard
pub record IsCalled (w : Warp) (k : ℕ) (t : Shard) : Type 0 where
  pub same : IsSameShare (shard_at w k) t
  pub bound : t.bound ≡ w.bound
  -- what is held is in order
  pub held : IsRising event_before event_same t.held
  pub own : IsOwn (simulation w.case) (λ r. worker_with w r == k) (shard_core w.stop t)

-- what is refused at the part is what is refused
pub lift_err : {S : Type 0} (m : Simulation S Event) (X : Rest Event) (o : Result (Core Event) Refusal) (f : Refusal) → lift m X o ≡ Err f → o ≡ Err f
lift_err m X (Ok D) f h = cc
lift_err m X (Err g) f h = h

-- of a router that is its own
own_outcome : (s : Shard) (r : ℕ) (o : Result (Core Event) Refusal) (D : Core Event) → share.at_own s r o ≡ Ok D → o ≡ Ok D
own_outcome s r o D h = go (owns s r) h where
  go : (b : Bool) → (if b then o else Err NotMine) ≡ Ok D → o ≡ Ok D
  go true h = h
  go false h = cc

-- of a router that is there
at_router_done : {S E : Type 0} (m : Simulation S E) (r : ℕ) (o : Result (Core E) Refusal) (C D : Core E) → o ≡ Ok C → at_router m r o ≡ Ok D → C ≡ D
at_router_done m r o C D made h = go (nat_lt r m.routers) h where
  go : (b : Bool) → (if b then o else Err NotMine) ≡ Ok D → C ≡ D
  go true h = cc (sym made ∙ h)
  go false h = cc

-- a good machine with more room is good
widen_good : {S E : Type 0} (m : Simulation S E) → IsLawful m → (C : Core E) (r : ℕ) → IsGood m C → IsGood m (with_room m C r)
widen_good m law C r good = record { part = (widen_keeps m law C.bound C r good.part).part; balance = good.balance; done = good.done; bound = good.bound }

module _ (w : Warp) (is : IsWarp w) (k : ℕ) (within : k < length w.shards) where
  -- a call that was made leaves the machine good, and it counts right
  pub done : (t : Shard) → IsCalled w k t → IsGood (simulation w.case) (warp_core (given_back w k t)) → AreCounted (simulation w.case) (warp_core (given_back w k t)) → IsWarp (given_back w k t)
  done t called good counted = next_is w is k t t.outgoing within called.same called.bound called.held called.own good counted

  pub handled : (t : Shard) (r : ℕ) → IsSameShare (shard_at w k) t → handling w.stop (lent w k) r ≡ Ok (shard_core w.stop t) → IsCalled w k t
  handled t r same went =
      let m = simulation w.case in
      let C = shard_core w.stop (lent w k) in
      let D = shard_core w.stop t in
      let did : handle m C r (first_pending m C r) ≡ Ok D =
      own_outcome (lent w k) r (handle m C r (first_pending m C r)) D
      (ap (λ case. share.at_own (lent w k) r (handle (simulation case) C r (first_pending (simulation case) C r))) (sym (is.shares k within).case) ∙ went) in
      record {
        same = same;
        bound = (handle_keeps m (law w is) w.bound C D r (part w is k within) did).bound ∙ (is.shares k within).bound;
        held = rising_handle m (law w is) C D r (is.shares k within).held did;
        own = own_handle m (law w is) (λ r. worker_with w r == k) C D r (own_lent w is k within) did;
      }

  pub undone : (t : Shard) (r : ℕ) → IsSameShare (shard_at w k) t → undoing w.stop (lent w k) r ≡ Ok (shard_core w.stop t) → IsCalled w k t
  undone t r same went =
      let m = simulation w.case in
      let C = shard_core w.stop (lent w k) in
      let D = shard_core w.stop t in
      let did : undo m C r (C.history r) ≡ Ok D =
      own_outcome (lent w k) r (undo m C r (C.history r)) D
      (ap (λ case. share.at_own (lent w k) r (undo (simulation case) C r (C.history r))) (sym (is.shares k within).case) ∙ went) in
      let bound = (is.shares k within).bound in
      record {
        same = same;
        bound = (undo_keeps m (law w is) w.bound C D r (omega arith) (part w is k within) did).bound ∙ bound;
        held = rising_undo m (law w is) C D r (is.shares k within).held did;
        own = own_undo m (law w is) (λ r. worker_with w r == k) w.bound C D r (part w is k within) (own_lent w is k within) did;
      }

  pub commits : (t : Shard) (r : ℕ) → IsSameShare (shard_at w k) t → committing w.stop (lent w k) r ≡ Ok (shard_core w.stop t) → IsCalled w k t
  commits t r same went =
      let m = simulation w.case in
      let C = shard_core w.stop (lent w k) in
      let D = shard_core w.stop t in
      let did : ◌≡◌ {A = Result (Core Event) Refusal} (Ok (with_commit m C r)) (Ok D) =
      own_outcome (lent w k) r (Ok (with_commit m C r)) D
      (ap (λ case. share.at_own (lent w k) r (Ok (with_commit (simulation case) C r))) (sym (is.shares k within).case) ∙ went) in
      let reached : with_commit m C r ≡ D = cc did in
      let own = own_lent w is k within in
      record {
        same = same;
        bound = sym (ap (λ (D : Core Event). D.bound) reached) ∙ (is.shares k within).bound;
        held = subst (λ (D : Core Event). IsRising event_before event_same D.held) reached (is.shares k within).held;
        own = subst (IsOwn m (λ r. worker_with w r == k)) reached (record { history = own.history; waiting = own.waiting; held = own.held });
      }

  pub releases : (t : Shard) (r : ℕ) → IsSameShare (shard_at w k) t → releasing w.stop (lent w k) r ≡ Ok (shard_core w.stop t) → IsCalled w k t
  releases t r same went =
      let m = simulation w.case in
      let C = shard_core w.stop (lent w k) in
      let D = shard_core w.stop t in
      let did : ◌≡◌ {A = Result (Core Event) Refusal} (Ok (with_release m C r)) (Ok D) =
      own_outcome (lent w k) r (Ok (with_release m C r)) D
      (ap (λ case. share.at_own (lent w k) r (Ok (with_release (simulation case) C r))) (sym (is.shares k within).case) ∙ went) in
      let reached : with_release m C r ≡ D = cc did in
      record {
        same = same;
        bound = sym (ap (λ (D : Core Event). D.bound) reached) ∙ (is.shares k within).bound;
        held = subst (λ (D : Core Event). IsRising event_before event_same D.held) reached (rising_release m (law w is) C r (is.shares k within).held);
        own = subst (IsOwn m (λ r. worker_with w r == k)) reached (own_release m (law w is) (λ r. worker_with w r == k) C r (own_lent w is k within));
      }

  pub widens : (t : Shard) (r : ℕ) → IsSameShare (shard_at w k) t → widening w.stop (lent w k) r ≡ Ok (shard_core w.stop t) → IsCalled w k t
  widens t r same went =
      let m = simulation w.case in
      let C = shard_core w.stop (lent w k) in
      let D = shard_core w.stop t in
      let did : ◌≡◌ {A = Result (Core Event) Refusal} (Ok (with_room m C r)) (Ok D) =
      own_outcome (lent w k) r (Ok (with_room m C r)) D
      (ap (λ case. share.at_own (lent w k) r (Ok (with_room (simulation case) C r))) (sym (is.shares k within).case) ∙ went) in
      let reached : with_room m C r ≡ D = cc did in
      let own = own_lent w is k within in
      record {
        same = same;
        bound = sym (ap (λ (D : Core Event). D.bound) reached) ∙ (is.shares k within).bound;
        held = subst (λ (D : Core Event). IsRising event_before event_same D.held) reached (is.shares k within).held;
        own = subst (IsOwn m (λ r. worker_with w r == k)) reached (record { history = own.history; waiting = own.waiting; held = own.held });
      }

  -- the shard as it comes back, and the messages on their way
  pub back_again : (s : Shard) (flight : List (Signed Event)) → s.outgoing ≡ [] → with_shard w k s flight ≡ given_back w k (behind s flight)
  back_again s flight none = λ i. with_shard w k (record s { outgoing = none i }) flight

  -- nothing has changed
  pub same_again : (s : Shard) (flight : List (Signed Event)) → s ≡ shard_at w k → flight ≡ w.flight → with_shard w k s flight ≡ w
  same_again s flight same kept = (λ i. with_shard w k (same i) (kept i)) ∙ ap (λ shards. record w { shards = shards }) (set_same w.shards k no_shard within)

-- a read within a list does not depend on what stands beyond it
pub any_default : {A : Type 0} (xs : List A) (k : ℕ) (a b : A) → k < length xs → get_or xs k a ≡ get_or xs k b
any_default [] k a b within = absurd (omega arith)
any_default (x ∷ xs) zero a b within = refl
any_default (x ∷ xs) (suc k) a b within = any_default xs k a b (omega arith)

-- what a turn at worker k's shard gives, with the shard and the messages on their way as they came back
pub record IsTurned (w : Warp) (k : ℕ) (make : Core Event → Result (Core Event) Refusal) (s : Shard) (flight : List (Signed Event)) (result : Result (Unit {0}) (OrMemory Refusal)) : Type 0 where
  pub is : IsWarp (with_shard w k s flight)
  pub ok : OnOk result (make (warp_core w) ≡ Ok (warp_core (with_shard w k s flight)))
  pub refused : (f : Refusal) → IsErrOf result (or_memory.Fault f) ↔ (make (warp_core w) ≡ Err f)

module _ (w : Warp) (is : IsWarp w) (k : ℕ) (within : k < length w.shards) where
  -- the outcome of a call at the part is what it makes of the machine, which stays good and counts right
  pub record IsOutcome (make : Core Event → Result (Core Event) Refusal) (outcome : Result (Core Event) Refusal) : Type 0 where
    pub made : make (warp_core w) ≡ lift (simulation w.case) (rest w k) outcome
    pub good : (D : Core Event) → make (warp_core w) ≡ Ok D → IsGood (simulation w.case) D
    pub counted : (D : Core Event) → make (warp_core w) ≡ Ok D → AreCounted (simulation w.case) D
    pub called : (t : Shard) → IsSameShare (shard_at w k) t → outcome ≡ Ok (shard_core w.stop t) → IsCalled w k t

  -- the shard and the messages on their way after such a call at a shard
  pub record IsBack (call : Shard → Result (Core Event) Refusal) (at s : Shard) (flight : List (Signed Event)) (result : Result (Unit {0}) (OrMemory Refusal)) : Type 0 where
    pub ok : OnOk result (call (behind at w.flight) ≡ Ok (shard_core w.stop (behind s flight)))
    pub refused : (f : Refusal) → IsErrOf result (or_memory.Fault f) ↔ (call (behind at w.flight) ≡ Err f)
    pub err : OnErr result (s ≡ at)
    pub unsent : OnErr result (flight ≡ w.flight)
    pub outgoing : s.outgoing ≡ at.outgoing
    pub same : IsSameShare at s

  pub turned : (make : Core Event → Result (Core Event) Refusal) (call : Shard → Result (Core Event) Refusal) → IsOutcome make (call (lent w k))
      → (at s : Shard) (flight : List (Signed Event)) (result : Result (Unit {0}) (OrMemory Refusal)) → at ≡ shard_at w k
      → IsBack call at s flight result → IsTurned w k make s flight result
  turned make call outcome at s flight result there came = record {
    is = go result back;
    ok = went result back;
    refused = λ f. (
      (λ told. outcome.made ∙ ap (lift (simulation w.case) (rest w k)) ((back.refused f).0 told)),
      (λ told. (back.refused f).1 (lift_err (simulation w.case) (rest w k) (call (lent w k)) f (sym outcome.made ∙ told))),
    );
  } where
    back : IsBack call (shard_at w k) s flight result
    back = subst (λ at. IsBack call at s flight result) there came

    none : s.outgoing ≡ []
    none = back.outgoing ∙ (is.shares k within).outgoing

    here : IsSameShare (shard_at w k) s → IsSameShare (shard_at w k) (behind s flight)
    here same = record { terms = same.terms; routers = same.routers }

    did : IsSameShare (shard_at w k) s → call (lent w k) ≡ Ok (shard_core w.stop (behind s flight)) → make (warp_core w) ≡ Ok (warp_core (given_back w k (behind s flight)))
    did same ok =
        outcome.made
        ∙ (ap (lift (simulation w.case) (rest w k)) ok
        ∙ ap Ok (sym (later w is k within (behind s flight) (outcome.called (behind s flight) (here same) ok).bound (ap (λ x. x.cancel) same.terms ∙ (is.shares k within).cancel))))

    go : (result : Result (Unit {0}) (OrMemory Refusal)) → IsBack call (shard_at w k) s flight result → IsWarp (with_shard w k s flight)
    go (Ok u) back = subst IsWarp (sym (back_again w is k within s flight none))
        (done w is k within (behind s flight) (outcome.called (behind s flight) (here back.same) back.ok)
        (outcome.good (warp_core (given_back w k (behind s flight))) (did back.same back.ok))
        (outcome.counted (warp_core (given_back w k (behind s flight))) (did back.same back.ok)))
    go (Err e) back = subst IsWarp (sym (same_again w is k within s flight back.err back.unsent)) is

    went : (result : Result (Unit {0}) (OrMemory Refusal)) → IsBack call (shard_at w k) s flight result → OnOk result (make (warp_core w) ≡ Ok (warp_core (with_shard w k s flight)))
    went (Ok u) back = did back.same back.ok ∙ ap (λ v. Ok (warp_core v)) (sym (back_again w is k within s flight none))
    went (Err e) back = tt

  -- what a step makes is good, and it counts right
  steps_on : (x : Step) (outcome : Result (Core Event) Refusal) → step (simulation w.case) (warp_core w) x ≡ lift (simulation w.case) (rest w k) outcome
      → ((t : Shard) → IsSameShare (shard_at w k) t → outcome ≡ Ok (shard_core w.stop t) → IsCalled w k t) → IsOutcome (λ C. step (simulation w.case) C x) outcome
  steps_on x outcome made called = record {
    made = made;
    good = λ D did. (step_keeps (simulation w.case) (law w is) (warp_core w) D x is.good did).good;
    counted = λ D did. step_counted (simulation w.case) (law w is) (numbered w.case is.case) (warp_core w) D x is.good did is.counted;
    called = called;
  }

  -- and so is a machine with more room
  widen_outcome : (r : ℕ) → worker_with w r ≡ k → IsOutcome (after_call (simulation w.case) calls.Widen r) (widening w.stop (lent w k) r)
  widen_outcome r mine =
      let m = simulation w.case in
      record {
        made = widen_step w is k within r mine;
        good = λ D did. subst (IsGood m) (at_router_done m r (Ok (with_room m (warp_core w) r)) (with_room m (warp_core w) r) D refl did) (widen_good m (law w is) (warp_core w) r is.good);
        counted = λ D did. subst (AreCounted m) (at_router_done m r (Ok (with_room m (warp_core w) r)) (with_room m (warp_core w) r) D refl did) is.counted;
        called = λ t same went. widens w is k within t r same went;
      }

  pub call_outcome : (call : RouterCall) (r : ℕ) → worker_with w r ≡ k → IsOutcome (after_call (simulation w.case) call r) (calling call w.stop (lent w k) r)
  call_outcome calls.Handle r mine = steps_on (Handle r) (handling w.stop (lent w k) r) (handle_step w is k within r mine) (λ t same went. handled w is k within t r same went)
  call_outcome calls.Undo r mine = steps_on (Undo r) (undoing w.stop (lent w k) r) (undo_step w is k within r mine) (λ t same went. undone w is k within t r same went)
  call_outcome calls.Commit r mine = steps_on (Commit r) (committing w.stop (lent w k) r) (commit_step w is k within r mine) (λ t same went. commits w is k within t r same went)
  call_outcome calls.Release r mine = steps_on (Release r) (releasing w.stop (lent w k) r) (release_step w is k within r mine) (λ t same went. releases w is k within t r same went)
  call_outcome calls.Widen r mine = widen_outcome r mine

-- the worker of a router, as the code finds it
pub worker_there : (w v : Warp) (r k : ℕ) → w ≡ v → k ≡ worker_with v r → worker_with w r ≡ k
worker_there w v r k is at = ap (λ u. worker_with u r) is ∙ sym at

pub within_there : (w v : Warp) (k : ℕ) → w ≡ v → k < length v.shards → k < length w.shards
within_there w v k is h = subst (λ u. k < length u.shards) (sym is) h

-- a machine is the one-thread run as far as it is committed
pub seq_of : (w : Warp) → IsWarp w → IsSeq (simulation w.case) (warp_core w)
seq_of w is = good_is_seq (simulation w.case) (lawful w.case is.case) (numbered w.case is.case) (warp_core w) is.good

-- a machine with a later stop is one
pub later_stop : (w : Warp) (stop : ℕ) → IsWarp w → w.stop ≤ stop → stop ≤ LATEST → IsWarp (record w { stop = stop })
later_stop w stop is rises most = record {
  case = is.case;
  workers = is.workers;
  shares = λ k within. (let old = is.shares k within in record {
    case = old.case;
    worker = old.worker;
    routers = old.routers;
    bound = old.bound;
    retains = old.retains;
    cancel = old.cancel;
    outgoing = old.outgoing;
    held = old.held;
    own = record { history = old.own.history; waiting = old.own.waiting; held = old.own.held };
  });
  good = good_further (simulation w.case) (law w is) (warp_core w) stop rises is.good;
  counted = is.counted;
  stop = most;
}
