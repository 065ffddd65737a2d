-- An exchange and shares at a time of the one-thread run are a parallel run that stands there, and a settled one stands at its stop.
use Rattle.std.proofs.Common.{◌≡◌, ℕ, suc, ◌+◌, ◌<◌, ◌≤◌, ◌==◌, ◌&&◌, Bool, true, cond, List, [], ◌∷◌, drop, flat_map, get_or, length, map, nat_lt, Option, Some, slice_get, refl, ap, sym, ◌∙◌, subst, inl, inr, arith}
use Rattle.std.proofs.lemmas.Bool.{and_parts, cases_Bool, cases_lt, lt-ltb, ltb-true}
use Rattle.std.proofs.lemmas.List.{length-replicate}
use Rattle.std.specs.List.{AllByRecursion, range_with_len}
use Rattle.std.specs.Prelude.{replicate}
use Rattle.tw_core.proofs.Cuts.{cut_at_stop}
use Rattle.tw_core.proofs.Owners.{of_owner}
use Rattle.tw_core.specs.Cut.{IsCut}
use Rattle.tw_core.specs.Machine.{AreCounted, Core, committed}
use Rattle.tw_core.specs.Parts.{Part}
use Rattle.tw_event.specs.declared.event.Event.{Event}
use Rattle.tw_event.specs.Order.{event_before}
use Rattle.tw_exchange.specs.Board.{Board, new_board, who}
use Rattle.tw_model.proofs.Lawful.{lawful, numbered}
use Rattle.tw_model.specs.Case.{Case, IsCase, simulation}
use Rattle.tw_model.specs.declared.limits.TheConstants.{LATEST}
use Rattle.tw_model.specs.State.{State}
use Rattle.tw_parallel.proofs.Ends.{ended, machine_settled}
use Rattle.tw_parallel.proofs.Owners.{good_of, law, pending_of}
use Rattle.tw_parallel.specs.Cut.{AreSharesAt, IsExchangeAt, IsShareAt, StandAt}
use Rattle.tw_parallel.specs.Hands.{IsEmptyHand}
use Rattle.tw_parallel.specs.Inside.{IsInside, sim_of}
use Rattle.tw_parallel.specs.Settled.{HasNoRecords, IsSettled}
use Rattle.tw_parallel.specs.Sim.{AreOf, IsSim, Sim, machine}
use Rattle.tw_parallel.specs.declared.sim.Sim.TheInside.{Inside}
use Rattle.tw_rule.proofs.Cuts.{machine_at_cut, none_beyond, rule_at_cut, run_at}
use Rattle.tw_rule.proofs.Places.{all_at, all_in_map, get_map, total_map}
use Rattle.tw_rule.proofs.Ruled.{counted_of_rule, handled_of, owners_once}
use Rattle.tw_rule.specs.Cut.{AreCutPlaces, IsCutBoard, IsCutPlace}
use Rattle.tw_rule.specs.Place.{Place, part_of}
use Rattle.tw_shard.specs.Cut.{IsShardAt}
use Rattle.tw_shard.specs.Past.{own_run}
use Rattle.tw_shard.specs.Shard.{Shard, no_shard, owns, shard_core, timeline}
use Rattle.tw_shard.specs.Timeline.{Timeline, history}
use Rattle.tw_sim.proofs.Counts.{in_filter, times-filter-no, times-filter-yes}
use Rattle.tw_sim.proofs.Unique.{all_below}
use Rattle.tw_sim.specs.declared.machine.Cancel.{Cancel}
use Rattle.tw_sim.specs.Ordered.{insert_all}
use Rattle.tw_sim.specs.Seq.{log, rest, seq}
use Rattle.tw_sim.specs.Simulation.{Simulation, below, times}
use Rattle.tw_table.proofs.Deals.{long_map}
use Rattle.tw_table.specs.declared.hand.Hand.{Hand}
use Rattle.tw_table.specs.Shares.{IsRuled, Share, board_of, place_of, shares_of}
use Rattle.tw_table.proofs.Openings.{no_mail}

-- all that a router has handled of the run to a time is before it
run_below : (case : Case) → IsCase case → (r time : ℕ) → below (simulation case) time (own_run case r time) ≡ own_run case r time
run_below case is r time =
    let m = simulation case in
    let law = lawful case is in
    let run = run_at m law (numbered case is) time in
    all_below m law time (own_run case r time) (λ e there. run.soon e (in_filter m law (λ x. x.dst == r) e (log m time) there).1)

-- ---- shares at a time

module _ (case : Case) (is : IsCase case) (whose : ℕ → ℕ) (time : ℕ) (retains : Bool) (cancel : Cancel) where
  abbrev m : Simulation State Event
  m = simulation case

  -- a router of the case that is worker k's is at its shard
  is_own : (k r : ℕ) (t : Share) → IsShareAt case whose time k retains cancel t → r < case.net.nodes → owns t.shard r ≡ (whose r == k)
  is_own k r t at known = at.shard.owns_are r ∙ ap (λ b. b && (whose r == k)) (lt-ltb r case.net.nodes known)

  -- and all that are there are so
  own_parts : (k r : ℕ) (t : Share) → IsShareAt case whose time k retains cancel t → owns t.shard r ≡ true → (nat_lt r case.net.nodes ≡ true) × ((whose r == k) ≡ true)
  own_parts k r t at own = and_parts (nat_lt r case.net.nodes) (whose r == k) (sym (at.shard.owns_are r) ∙ own)

  -- what such a router has handled
  own_history : (k r : ℕ) (t : Share) → IsShareAt case whose time k retains cancel t → owns t.shard r ≡ true → (shard_core 0 t.shard).history r ≡ own_run case r time
  own_history k r t at own = rw own (ap history (at.shard.routers r own))

  own_done : (k r : ℕ) (t : Share) → IsShareAt case whose time k retains cancel t → owns t.shard r ≡ true → (shard_core 0 t.shard).done r ≡ time
  own_done k r t at own = rw own (ap (λ (t : Timeline). t.done) (at.shard.routers r own))

  history_at : (k r : ℕ) (t : Share) → IsShareAt case whose time k retains cancel t → (shard_core 0 t.shard).history r ≡ cond (whose r == k) (own_run case r time) []
  history_at k r t at =
      elim (cases_Bool (owns t.shard r)) [
        | inl own ↦ own_history k r t at own ∙ sym (ap (λ b. cond b (own_run case r time) []) (own_parts k r t at own).1)
        | inr other ↦ (
            let here : (shard_core 0 t.shard).history r ≡ [] = rw other refl in
            here ∙ sym (elim (cases_lt r case.net.nodes) [
              | inl known ↦ ap (λ b. cond b (own_run case r time) []) (sym (is_own k r t at known) ∙ other)
              | inr beyond ↦ elim (cases_Bool (whose r == k)) [
                | inl b ↦ ap (λ b. cond b (own_run case r time) []) b
                    ∙ none_beyond m (lawful case is) time (seq m time) (run_at m (lawful case is) (numbered case is) time) r beyond
                | inr b ↦ ap (λ b. cond b (own_run case r time) []) b
              ]
            ]))
      ]

  done_at : (k r : ℕ) (t : Share) → IsShareAt case whose time k retains cancel t → (shard_core 0 t.shard).done r ≤ time
  done_at k r t at =
      elim (cases_Bool (owns t.shard r)) [
        | inl own ↦ (let same = own_done k r t at own in omega arith)
        | inr other ↦ (let here : (shard_core 0 t.shard).done r ≡ 0 = rw other refl in omega arith)
      ]

  -- as many events are counted as committed as are committed: all that it has handled
  counted_at : (k r : ℕ) (t : Share) → IsShareAt case whose time k retains cancel t → (shard_core 0 t.shard).past r ≡ length (below m ((shard_core 0 t.shard).done r) ((shard_core 0 t.shard).history r))
  counted_at k r t at =
      elim (cases_Bool (owns t.shard r)) [
        | inl own ↦ (
            let counted : (shard_core 0 t.shard).past r ≡ length (own_run case r time) = rw own (ap (λ (t : Timeline). length t.past) (at.shard.routers r own)) in
            let same : length (below m ((shard_core 0 t.shard).done r) ((shard_core 0 t.shard).history r)) ≡ length (below m time (own_run case r time))
            = λ i. length (below m (own_done k r t at own i) (own_history k r t at own i)) in
            counted ∙ sym (same ∙ ap length (run_below case is r time)))
        | inr other ↦ rw other refl
      ]

  pending_at : (k : ℕ) (t : Share) → IsShareAt case whose time k retains cancel t → (e : Event) → times m e t.shard.pending ≡ cond (whose e.dst == k) (times m e (rest m time)) 0
  pending_at k t at e =
      ap (times m e) at.shard.pending
      ∙ elim (cases_Bool (whose e.dst == k)) [
        | inl here ↦ times-filter-yes m (lawful case is) (λ x. whose x.dst == k) e (rest m time) here ∙ sym (ap (λ b. cond b (times m e (rest m time)) 0) here)
        | inr other ↦ times-filter-no m (lawful case is) (λ x. whose x.dst == k) e (rest m time) other ∙ sym (ap (λ b. cond b (times m e (rest m time)) 0) other)
      ]

  -- a share at a time is a place at the cut
  place_at : (k : ℕ) (t : Share) → IsShareAt case whose time k retains cancel t → IsCutPlace m whose time k (place_of t)
  place_at k t at = record {
    worker = at.shard.worker;
    owns = λ r known. is_own k r t at known;
    history = λ r. history_at k r t at;
    pending = pending_at k t at;
    kept = at.shard.kept;
    outgoing = at.shard.outgoing;
    held = at.shard.held;
    done = λ r. done_at k r t at;
    counted = λ r. counted_at k r t at;
    bound = at.shard.bound;
    mail = at.mail;
    unsent = at.unsent;
  }

  places_at : (k : ℕ) (ts : List Share) → AreSharesAt case whose time k retains cancel ts → AreCutPlaces m whose time k (map place_of ts)
  places_at k [] at = tt
  places_at k (t ∷ ts) at = (place_at k t at.0, places_at (suc k) ts at.1)

  -- what holds of each share at a time
  all_shares : (Q : Share → Type 0) → ((k : ℕ) (t : Share) → IsShareAt case whose time k retains cancel t → Q t) → (k : ℕ) (ts : List Share) → AreSharesAt case whose time k retains cancel ts
      → AllByRecursion Q ts
  all_shares Q f k [] at = tt
  all_shares Q f k (t ∷ ts) at = (f k t at.0, all_shares Q f (suc k) ts at.1)

  in_order : (k : ℕ) (ts : List Share) → AreSharesAt case whose time k retains cancel ts → map (λ (t : Share). t.shard.terms.worker) ts ≡ range_with_len k (length ts)
  in_order k [] at = refl
  in_order k (t ∷ ts) at =
      let next : suc k ≡ k + 1 = omega arith in
      let others = in_order (suc k) ts at.1 ∙ ap (λ j. range_with_len j (length ts)) next in
      λ i. at.0.shard.worker i ∷ others i

  -- when they take back what undone events have sent
  pub cancels_at : (k : ℕ) (ts : List Share) → AreSharesAt case whose time k retains cancel ts → map (λ (t : Share). t.shard.terms.cancel) ts ≡ replicate (length ts) cancel
  cancels_at k [] at = refl
  cancels_at k (t ∷ ts) at = λ i. at.0.shard.cancel_is i ∷ cancels_at (suc k) ts at.1 i

  -- whether they retain their events
  pub retains_at : (k : ℕ) (ts : List Share) → retains ≡ true → AreSharesAt case whose time k retains cancel ts → AllByRecursion (λ (t : Share). t.shard.terms.retains ≡ true) ts
  retains_at k ts all at = all_shares (λ t. t.shard.terms.retains ≡ true) (λ k t one. one.shard.retains_are ∙ all) k ts at

  -- shards at a time, with an empty hand each
  pub shares_at : (k : ℕ) (ss : List Shard) (hs : List Hand) → length hs ≡ length ss → ((j : ℕ) → j < length ss → IsShardAt case whose time (k + j) retains cancel (get_or ss j no_shard))
      → AllByRecursion IsEmptyHand hs → AreSharesAt case whose time k retains cancel (shares_of ss hs)
  shares_at k [] hs same each empty = tt
  shares_at k (s ∷ ss) [] same each empty = absurd (omega arith)
  shares_at k (s ∷ ss) (h ∷ hs) same each empty = (
    record {
      shard = subst (λ i. IsShardAt case whose time i retains cancel s) (omega arith) (each 0 (omega arith));
      mail = λ i. drop (empty.0.next i) (empty.0.mail i);
      unsent = empty.0.out;
    },
    shares_at (suc k) ss hs (omega arith) (λ j l. subst (λ i. IsShardAt case whose time i retains cancel (get_or ss j no_shard)) (omega arith) (each (suc j) (omega arith))) empty.1,
  )

-- ---- an exchange at a time

-- one that begins there, whether a list says the worker of each router or not
pub exchange_at : (n time stop : ℕ) (owners : Option (List ℕ)) → time ≤ stop → IsExchangeAt n time (record (new_board n time stop) { owners = owners })
exchange_at n time stop owners le = record { mail = no_mail n; reports = refl; bound = refl; stop = le }

-- ---- a run at a time

module _ (case : Case) (time : ℕ) (retains : Bool) (cancel : Cancel) (x : Board) (shares : List Share) (at : StandAt case time retains cancel x shares) where
  abbrev pub sim : Sim
  sim = record { case = case; board = x; shares = shares }

  many : length (map place_of shares) ≡ length shares
  many = long_map place_of shares

  board_at : IsCutBoard (length (map place_of shares)) time (board_of x)
  board_at = subst (λ n. IsCutBoard n time (board_of x)) (sym many) at.exchange

  all_routers : (r : ℕ) → r < case.net.nodes → who x r < length (map place_of shares)
  all_routers r known = (let within = at.routers r known in let same = many in omega arith)

  -- it keeps the rule
  pub ruled_at : IsRuled case x shares
  ruled_at = record {
    is_case = at.is_case;
    cases = all_shares case at.is_case (who x) time retains cancel (λ t. t.shard.terms.case ≡ case) (λ k t one. one.shard.case_is) 0 shares at.each;
    count = sym (ap length at.exchange.reports ∙ length-replicate (length shares) (Some time));
    rule = rule_at_cut (simulation case) (lawful case at.is_case) (numbered case at.is_case) (who x) time (board_of x) (map place_of shares) board_at
        (places_at case at.is_case (who x) time retains cancel 0 shares at.each) all_routers;
  }

  -- its machine stands at the cut
  pub machine_at : IsCut (simulation case) time (machine sim)
  machine_at = machine_at_cut (simulation case) (lawful case at.is_case) (numbered case at.is_case) (who x) time (board_of x) (map place_of shares) board_at
      (places_at case at.is_case (who x) time retains cancel 0 shares at.each) all_routers

  -- it is a parallel run
  pub sim_at : 0 < length shares → x.stop ≤ LATEST → IsSim sim
  sim_at some most =
      let count = ruled_at.count in
      record {
        some = omega arith;
        order = in_order case at.is_case (who x) time retains cancel 0 shares at.each ∙ ap (range_with_len 0) count;
        ruled = ruled_at;
        known = all_shares case at.is_case (who x) time retains cancel (AreOf case)
            (λ k t one r own. ltb-true r case.net.nodes (own_parts case at.is_case (who x) time retains cancel k r t one own).0) 0 shares at.each;
        alike = record {
          retains = retains;
          cancel = cancel;
          each = all_shares case at.is_case (who x) time retains cancel (λ t. (t.shard.terms.retains ≡ retains) × (t.shard.terms.cancel ≡ cancel)) (λ k t one. (one.shard.retains_are, one.shard.cancel_is)) 0 shares
              at.each;
        };
        stop = most;
      }

  -- whose routers have committed all that they have handled
  all_done : (r : ℕ) → r < case.net.nodes → (machine sim).done r ≡ time
  all_done r known =
      let ps = map place_of shares in
      let once = owners_once (simulation case) (lawful case at.is_case) (who x) (board_of x) ps r ruled_at.rule known in
      let same = total_map (λ (p : Part Event). cond (p.owns r) 1 0) (part_of x.stop) ps in
      let each = all_shares case at.is_case (who x) time retains cancel (λ t. owns t.shard r ≡ true → (shard_core 0 t.shard).done r ≡ time)
      (λ k t one own. own_done case at.is_case (who x) time retains cancel k r t one own) 0 shares at.each in
      of_owner r (λ (C : Core Event). C.done r) 0 time (map (part_of x.stop) ps)
      (all_in_map (λ (p : Part Event). p.owns r ≡ true → p.core.done r ≡ time) (part_of x.stop) ps (all_in_map (λ (p : Place Event). p.owns r ≡ true → p.done r ≡ time) place_of shares each))
      (omega arith)

  -- so where the stop is that time, it is settled
  pub settled_at : x.stop ≡ time → IsSettled sim
  settled_at last = record {
    bound = machine_at.bound ∙ sym last;
    flight = machine_at.flight;
    held = machine_at.held;
    committed = λ r known.
        let m = simulation case in
        ap (λ t. below m t ((machine sim).history r)) (all_done r known)
        ∙ (ap (below m time) (machine_at.history r) ∙ (run_below case at.is_case r time ∙ sym (machine_at.history r)));
  }

-- ---- what is committed

-- is what is counted as committed
pub counted_of : (s : Sim) → IsSim s → AreCounted (simulation s.case) (machine s)
counted_of s is = counted_of_rule (simulation s.case) (law s is) (who s.board) (board_of s.board) (map place_of s.shares) is.ruled.rule

-- ---- a run that is over

-- all that its routers have handled is committed
pub no_records : (s : Sim) → IsSim s → IsSettled s → HasNoRecords s
no_records s is settled r known =
    let counted = counted_of s is r in
    let all : length (committed (simulation s.case) (machine s) r) ≡ length ((machine s).history r) = ap length (settled.committed r known) in
    omega arith

-- its machine stands at a cut
pub over_is_a_cut : (s : Sim) → IsSim s → IsSettled s → IsCut (simulation s.case) s.board.stop (machine s)
over_is_a_cut s is settled = cut_at_stop (simulation s.case) (law s is) (numbered s.case is.ruled.is_case) (machine s) (good_of s is) (machine_settled s is settled) settled.bound

-- a router of a share has handled its events of the run to the stop
pub run_of_share : (s : Sim) → IsSim s → IsSettled s → (i r : ℕ) (t : Share) → slice_get s.shares i ≡ Some t → owns t.shard r ≡ true → history (timeline t.shard r) ≡ own_run s.case r s.board.stop
run_of_share s is settled i r t there own =
    let known = all_at (AreOf s.case) s.shares i t there is.known r own in
    let here : (shard_core 0 t.shard).history r ≡ history (timeline t.shard r) = rw own refl in
    sym here ∙ handled_of (simulation s.case) (law s is) (who s.board) (numbered s.case is.ruled.is_case) (board_of s.board) (map place_of s.shares) i r (place_of t) is.ruled.rule
    (get_map place_of s.shares i t there) known own settled.bound

-- and what waits at all shards, in the order, is what that run leaves
pub rest_of_shards : (a : Inside) → IsInside a → IsSettled (sim_of a) → insert_all event_before (flat_map (λ (s : Shard). s.pending) a.shards.items) [] ≡ rest (simulation a.case.now) a.exchange.stop
rest_of_shards a is settled =
    ap (λ es. insert_all event_before es []) (sym (pending_of a.exchange.stop a.shards.items a.hands.items is.hands)) ∙ (ended (sim_of a) is.sim settled).pending
