-- What a call at one worker's shard leaves of the machine.
use Rattle.std.proofs.Common.{◌≡◌, ℕ, suc, ◌<◌, ◌≤◌, ◌==◌, ◌&&◌, Bool, true, false, List, [], ◌++◌, length, set, get_or, remove, nat_lt, slice_get, Some, Result, Ok, Err, length-set, if◌then◌else◌, refl, ap, sym, ◌∙◌, subst, inl, inr, arith}
use Rattle.std.proofs.lemmas.Bool.{cases_eq, eq-eqb, le-ltb, lt-ltb}
use Rattle.std.proofs.lemmas.List.{append-nil, get_or-set_other, get_or-set_same}
use Rattle.std.proofs.lemmas.List.Edits.{remove-append_left}
use Rattle.std.proofs.lemmas.Option.{slice_get_within}
use Rattle.tw_core.specs.declared.refusal.Refusal.{Refusal}
use Rattle.tw_core.specs.declared.refusal.Refusal.TheVariants.{NotMine}
use Rattle.tw_core.specs.Good.{IsGood, IsGoodPart}
use Rattle.tw_core.specs.Machine.{AreCounted, Core}
use Rattle.tw_core.specs.Parts.{IsOwn}
use Rattle.tw_core.specs.Steps.{after_arrival, at_router, deliver, first_pending, handle, step, undo, with_commit, with_release, with_room}
use Rattle.tw_core.proofs.Wording.{arrival-front}
use Rattle.tw_event.specs.declared.event.Event.{Event}
use Rattle.tw_event.specs.Order.{event_before, event_same}
use Rattle.tw_model.specs.Case.{Case, simulation}
use Rattle.tw_model.proofs.Lawful.{lawful}
use Rattle.tw_model.specs.Effect.{suits}
use Rattle.tw_shard.specs.Arrival.{refusing}
use Rattle.tw_shard.specs.Commit.{committing}
use Rattle.tw_shard.specs.declared.rejection.Rejection.{Rejection}
use Rattle.tw_shard.specs.declared.rejection.Rejection.TheVariants as rejection
use Rattle.tw_shard.specs.declared.rejection.Rejection.TheVariants.{Foreign, Late}
use Rattle.tw_shard.specs.Roster.{has}
use Rattle.tw_shard.specs.Shard.{IsSameShare, Shard, handling, owns, releasing, shard_core, undoing, widening}
use Rattle.tw_shard.specs.Shard as share
use Rattle.tw_sim.specs.Owners.{owner}
use Rattle.tw_sim.specs.Rising.{IsRising}
use Rattle.tw_sim.specs.declared.machine.Signed.{Signed}
use Rattle.tw_sim.specs.declared.machine.Step.TheVariants.{Commit, Handle, Release, Undo, Deliver}
use Rattle.tw_sim.specs.Simulation.{IsLawful}
use Rattle.tw_warp.specs.Warp.{IsShare, IsWarp, Warp, lent, no_shard, shard_at, warp_core, worker_with}
use Rattle.tw_warp.proofs.Joined.{joined, joined_now, rest, rest_apart, with_shard}
use Rattle.tw_warp.proofs.Whole.{arrival_whole, commit_whole, handle_whole, lift, part_of, release_whole, room_whole, undo_whole, whole}

-- the machine once that shard has made a call
abbrev pub given_back : Warp → ℕ → Shard → Warp
given_back w k s = with_shard w k (record s { outgoing = [] }) s.outgoing

-- what is owned, not early and suits is not refused
welcome : (bound : ℕ) (own soon suit : Bool) → own ≡ true → soon ≡ false → suit ≡ true
    → ◌≡◌ {A = Result (Unit {0}) Rejection} (if own then (if soon then Err (Late bound) else (if suit then Ok tt else Err Foreign)) else Err rejection.NotMine) (Ok tt)
welcome bound own soon suit a b c = rw (a, b, c) refl

and_true : (b : Bool) → (b && true) ≡ b
and_true true = refl
and_true false = refl

and_false : (b : Bool) → (b && false) ≡ false
and_false true = refl
and_false false = refl

module _ (w : Warp) (is : IsWarp w) where
  pub law : IsLawful (simulation w.case)
  law = lawful w.case is.case

  -- the router's worker is there
  pub has_worker : (r : ℕ) → worker_with w r < length w.shards
  has_worker r = let some = is.workers in omega arith

  module _ (k : ℕ) (within : k < length w.shards) where
    -- the machine is the lent shard beside the rest
    pub now : warp_core w ≡ whole (simulation w.case) (rest w k) (shard_core w.stop (lent w k))
    now = joined_now w is.case k within (is.shares k within).bound (is.shares k within).cancel

    pub later : (s : Shard) → s.bound ≡ w.bound → s.terms.cancel ≡ w.cancel → warp_core (given_back w k s) ≡ whole (simulation w.case) (rest w k) (shard_core w.stop s)
    later s bound cancel = joined w is.case k within (record s { outgoing = [] }) s.outgoing bound cancel

    -- the lent shard owns the routers of its worker that are there
    pub lent_owns : (r : ℕ) → worker_with w r ≡ k → owns (lent w k) r ≡ nat_lt r w.case.net.nodes
    lent_owns r mine =
        (is.shares k within).routers r ∙ (ap (λ b. nat_lt r w.case.net.nodes && b) (eq-eqb (worker_with w r) k mine) ∙ and_true (nat_lt r w.case.net.nodes))

    -- a router of another worker has handled nothing there
    bare : (r : ℕ) → (worker_with w r == k) ≡ false → (shard_core w.stop (lent w k)).history r ≡ []
    bare r other =
        let none : owns (lent w k) r ≡ false =
        (is.shares k within).routers r ∙ (ap (λ b. nat_lt r w.case.net.nodes && b) other ∙ and_false (nat_lt r w.case.net.nodes)) in
        rw none refl

    -- its part of a good state
    pub part : IsGoodPart (simulation w.case) w.bound (shard_core w.stop (lent w k))
    part = part_of (simulation w.case) (rest w k) w.bound (shard_core w.stop (lent w k)) law bare (subst (IsGoodPart (simulation w.case) w.bound) now is.good.part)

    -- and what is for its routers
    pub own_lent : IsOwn (simulation w.case) (λ r. worker_with w r == k) (shard_core w.stop (lent w k))
    own_lent = let own = (is.shares k within).own in record { history = own.history; waiting = own.waiting; held = own.held }

    -- ---- steps

    -- what is asked of the lent shard is asked of a router that is there
    asked : (r : ℕ) → worker_with w r ≡ k → (outcome : Result (Core Event) Refusal)
        → (if nat_lt r w.case.net.nodes then outcome else Err NotMine) ≡ share.at_own (lent w k) r outcome
    asked r mine outcome = ap (λ b. if b then outcome else Err NotMine) (sym (lent_owns r mine))

    lifted : (b : Bool) (outcome : Result (Core Event) Refusal)
        → (if b then lift (simulation w.case) (rest w k) outcome else Err NotMine) ≡ lift (simulation w.case) (rest w k) (if b then outcome else Err NotMine)
    lifted true outcome = refl
    lifted false outcome = refl

    pub handle_step : (r : ℕ) → worker_with w r ≡ k → step (simulation w.case) (warp_core w) (Handle r) ≡ lift (simulation w.case) (rest w k) (handling w.stop (lent w k) r)
    handle_step r mine =
        let m = simulation w.case in
        let C = shard_core w.stop (lent w k) in
        let there = nat_lt r w.case.net.nodes in
        let done : handle m (warp_core w) r (first_pending m (warp_core w) r) ≡ lift m (rest w k) (handle m C r (first_pending m C r)) =
        ap (λ W. handle m W r (first_pending m W r)) now ∙ handle_whole m law (rest w k) (rest_apart w is.case k within is.shares) C r (eq-eqb (worker_with w r) k mine) in
        ap (λ outcome. if there then outcome else Err NotMine) done
        ∙ (lifted there (handle m C r (first_pending m C r))
        ∙ ap (lift m (rest w k)) (asked r mine (handle m C r (first_pending m C r))
        ∙ ap (λ case. share.at_own (lent w k) r (handle (simulation case) C r (first_pending (simulation case) C r))) (sym (is.shares k within).case)))

    pub undo_step : (r : ℕ) → worker_with w r ≡ k → step (simulation w.case) (warp_core w) (Undo r) ≡ lift (simulation w.case) (rest w k) (undoing w.stop (lent w k) r)
    undo_step r mine =
        let m = simulation w.case in
        let C = shard_core w.stop (lent w k) in
        let there = nat_lt r w.case.net.nodes in
        let done : undo m (warp_core w) r ((warp_core w).history r) ≡ lift m (rest w k) (undo m C r (C.history r)) =
        ap (λ W. undo m W r (W.history r)) now ∙ undo_whole m law (rest w k) (rest_apart w is.case k within is.shares) C r (eq-eqb (worker_with w r) k mine) in
        ap (λ outcome. if there then outcome else Err NotMine) done
        ∙ (lifted there (undo m C r (C.history r))
        ∙ ap (lift m (rest w k)) (asked r mine (undo m C r (C.history r))
        ∙ ap (λ case. share.at_own (lent w k) r (undo (simulation case) C r (C.history r))) (sym (is.shares k within).case)))

    pub commit_step : (r : ℕ) → worker_with w r ≡ k → step (simulation w.case) (warp_core w) (Commit r) ≡ lift (simulation w.case) (rest w k) (committing w.stop (lent w k) r)
    commit_step r mine =
        let m = simulation w.case in
        let C = shard_core w.stop (lent w k) in
        let there = nat_lt r w.case.net.nodes in
        let done : ◌≡◌ {A = Result (Core Event) Refusal} (Ok (with_commit m (warp_core w) r)) (lift m (rest w k) (Ok (with_commit m C r))) =
        ap (λ W. Ok (with_commit m W r)) now ∙ ap Ok (commit_whole m law (rest w k) (rest_apart w is.case k within is.shares) C r (eq-eqb (worker_with w r) k mine)) in
        ap (λ outcome. if there then outcome else Err NotMine) done
        ∙ (lifted there (Ok (with_commit m C r))
        ∙ ap (lift m (rest w k)) (asked r mine (Ok (with_commit m C r))
        ∙ ap (λ case. share.at_own (lent w k) r (Ok (with_commit (simulation case) C r))) (sym (is.shares k within).case)))

    pub release_step : (r : ℕ) → worker_with w r ≡ k → step (simulation w.case) (warp_core w) (Release r) ≡ lift (simulation w.case) (rest w k) (releasing w.stop (lent w k) r)
    release_step r mine =
        let m = simulation w.case in
        let C = shard_core w.stop (lent w k) in
        let there = nat_lt r w.case.net.nodes in
        let done : ◌≡◌ {A = Result (Core Event) Refusal} (Ok (with_release m (warp_core w) r)) (lift m (rest w k) (Ok (with_release m C r))) =
        ap (λ W. Ok (with_release m W r)) now ∙ ap Ok (release_whole m law (rest w k) (rest_apart w is.case k within is.shares) C r (eq-eqb (worker_with w r) k mine) (is.shares k within).held) in
        ap (λ outcome. if there then outcome else Err NotMine) done
        ∙ (lifted there (Ok (with_release m C r))
        ∙ ap (lift m (rest w k)) (asked r mine (Ok (with_release m C r))
        ∙ ap (λ case. share.at_own (lent w k) r (Ok (with_release (simulation case) C r))) (sym (is.shares k within).case)))

    pub widen_step : (r : ℕ) → worker_with w r ≡ k → at_router (simulation w.case) r (Ok (with_room (simulation w.case) (warp_core w) r)) ≡ lift (simulation w.case) (rest w k) (widening w.stop (lent w k) r)
    widen_step r mine =
        let m = simulation w.case in
        let C = shard_core w.stop (lent w k) in
        let there = nat_lt r w.case.net.nodes in
        let done : ◌≡◌ {A = Result (Core Event) Refusal} (Ok (with_room m (warp_core w) r)) (lift m (rest w k) (Ok (with_room m C r))) =
        ap (λ W. Ok (with_room m W r)) now ∙ ap Ok (room_whole m law (rest w k) (rest_apart w is.case k within is.shares) C r (eq-eqb (worker_with w r) k mine)) in
        ap (λ outcome. if there then outcome else Err NotMine) done
        ∙ (lifted there (Ok (with_room m C r))
        ∙ ap (lift m (rest w k)) (asked r mine (Ok (with_room m C r))
        ∙ ap (λ case. share.at_own (lent w k) r (Ok (with_room (simulation case) C r))) (sym (is.shares k within).case)))

    -- a message in flight may come to the shard that has its receiver
    pub welcome_there : (x : Signed Event) → w.bound ≤ x.event.time → x.event.dst < w.case.net.nodes → (simulation w.case).suits x.event ≡ true → worker_with w x.event.dst ≡ k
        → refusing (shard_at w k) x.event ≡ Ok tt
    welcome_there x late there suit mine =
        let e = x.event in
        let s = lent w k in
        let share = is.shares k within in
        let own : owns s e.dst ≡ true = lent_owns e.dst mine ∙ lt-ltb e.dst w.case.net.nodes there in
        let soon : nat_lt e.time s.bound ≡ false = ap (nat_lt e.time) share.bound ∙ le-ltb e.time w.bound late in
        let good : suits s.terms.case.net e.dst e ≡ true = ap (λ case. suits case.net e.dst e) share.case ∙ suit in
        welcome s.bound (owns s e.dst) (nat_lt e.time s.bound) (suits s.terms.case.net e.dst e) own soon good

    -- and it leaves the machine, the message aside, as its delivery does
    pub deliver_step : (j : ℕ) (x : Signed Event) (s : Shard) → slice_get w.flight j ≡ Some x → worker_with w x.event.dst ≡ k
        → after_arrival (simulation w.case) (shard_core w.stop (lent w k)) x ≡ shard_core w.stop s
        → step (simulation w.case) (warp_core w) (Deliver (suc j)) ≡ Ok (record (whole (simulation w.case) (rest w k) (shard_core w.stop s)) { flight = remove s.outgoing j })
    deliver_step j x s there mine came =
        let m = simulation w.case in
        let C = shard_core w.stop (lent w k) in
        let bare : Core Event = record (warp_core w) { flight = [] } in
        let back = (after_arrival m bare x).flight in
        let arrived : (front : List (Signed Event)) → after_arrival m (record (warp_core w) { flight = front }) x ≡ record (after_arrival m bare x) { flight = front ++ back } =
        λ front. ap (λ f. after_arrival m (record (warp_core w) { flight = f }) x) (sym (append-nil front)) ∙ arrival-front m bare x front in
        let reached : whole m (rest w k) (shard_core w.stop s) ≡ record (after_arrival m bare x) { flight = w.flight ++ back } =
        ap (whole m (rest w k)) (sym came)
        ∙ (sym (arrival_whole m law (rest w k) (rest_apart w is.case k within is.shares) C x (eq-eqb (worker_with w x.event.dst) k mine))
        ∙ (ap (λ W. after_arrival m W x) (sym now) ∙ arrived w.flight)) in
        ap (deliver m (warp_core w) j) there
        ∙ ap Ok (arrived (remove w.flight j)
        ∙ (ap (λ f. record (after_arrival m bare x) { flight = f }) (sym (remove-append_left w.flight back j (slice_get_within w.flight j x there)))
        ∙ sym (ap (λ (V : Core Event). record V { flight = remove V.flight j }) reached)))

-- by as many workers
pub own_as : (case : Case) (j n p : ℕ) (C : Core Event) → n ≡ p → IsOwn (simulation case) (λ r. owner n r == j) C → IsOwn (simulation case) (λ r. owner p r == j) C
own_as case j n p C is own = subst (λ q. IsOwn (simulation case) (λ r. owner q r == j) C) is own

-- the machine with another shard of worker k, which has what is for its routers, is one again where it is good and counts right
pub next_is : (w : Warp) (is : IsWarp w) (k : ℕ) (s : Shard) (flight : List (Signed Event)) → k < length w.shards → IsSameShare (shard_at w k) s → s.bound ≡ w.bound
    → IsRising event_before event_same s.held
    → IsOwn (simulation w.case) (λ r. worker_with w r == k) (shard_core w.stop s)
    → IsGood (simulation w.case) (warp_core (with_shard w k (record s { outgoing = [] }) flight))
    → AreCounted (simulation w.case) (warp_core (with_shard w k (record s { outgoing = [] }) flight))
    → IsWarp (with_shard w k (record s { outgoing = [] }) flight)
next_is w is k s flight within same bound held own good counted =
    let next : Shard = record s { outgoing = [] } in
    let count = length-set w.shards k next in
    record {
      case = is.case;
      workers = (let some = is.workers in omega arith);
      shares = λ j h. elim (cases_eq j k) [
        | inl here ↦ (
            let at : get_or (set w.shards k next) j no_shard ≡ next = ap (λ i. get_or (set w.shards k next) i no_shard) here ∙ get_or-set_same w.shards k next no_shard within in
            subst (IsShare (with_shard w k next flight) j) (sym at) (record {
              case = ap (λ x. x.case) same.terms ∙ (is.shares k within).case;
              worker = ap (λ x. x.worker) same.terms ∙ ((is.shares k within).worker ∙ sym here);
              routers = λ r.
                  ap (λ rs. has rs r) same.routers ∙ ((is.shares k within).routers r ∙ (λ i. nat_lt r w.case.net.nodes && (owner (sym count i) r == sym here i)));
              bound = bound;
              retains = ap (λ x. x.retains) same.terms ∙ (is.shares k within).retains;
              cancel = ap (λ x. x.cancel) same.terms ∙ (is.shares k within).cancel;
              outgoing = refl;
              held = held;
              own = own_as w.case j (length w.shards) (length (set w.shards k next)) (shard_core w.stop next) (sym count)
                  (subst (λ i. IsOwn (simulation w.case) (λ r. worker_with w r == i) (shard_core w.stop next)) (sym here) (record { history = own.history; waiting = own.waiting; held = own.held }));
            }))
        | inr other ↦ (
            let old = is.shares j (omega arith) in
            let at : get_or (set w.shards k next) j no_shard ≡ shard_at w j = get_or-set_other w.shards k j next no_shard other in
            subst (IsShare (with_shard w k next flight) j) (sym at) (record {
              case = old.case;
              worker = old.worker;
              routers = λ r. old.routers r ∙ (λ i. nat_lt r w.case.net.nodes && (owner (sym count i) r == j));
              bound = old.bound;
              retains = old.retains;
              cancel = old.cancel;
              outgoing = old.outgoing;
              held = old.held;
              own = own_as w.case j (length w.shards) (length (set w.shards k next)) (shard_core w.stop (shard_at w j)) (sym count) old.own;
            }))
      ];
      good = good;
      counted = counted;
      stop = is.stop;
    }
