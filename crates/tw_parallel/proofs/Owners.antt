-- What the rule tells of a run: it is the one-thread run, and its shards have of each router what the whole machine has.
use Rattle.std.proofs.Common.{◌≡◌, ℕ, ◌+◌, ◌-◌, ◌<◌, ◌≤◌, true, false, List, [], ◌∷◌, ◌++◌, flat_map, get_or, length, map, nat_lt, slice_get, Some, refl, ap, sym, ◌∙◌, subst, inl, inr, arith}
use Rattle.std.proofs.Math.Path.{fun_ext}
use Rattle.std.proofs.lemmas.Bool.{cases_Bool, eq-eqb, ltb-false, ltb-true}
use Rattle.std.proofs.lemmas.Simd.{map-map}
use Rattle.std.specs.List.{range_with_len}
use Rattle.tw_core.proofs.Owners.{from_owner}
use Rattle.tw_core.proofs.Sums.{all_map}
use Rattle.tw_core.specs.Good.{IsGood}
use Rattle.tw_core.specs.Machine.{Core}
use Rattle.tw_core.specs.Parts.{Part, at_owner, total}
use Rattle.tw_core.specs.Run.{IsSeq}
use Rattle.tw_event.specs.declared.event.Event.{Event}
use Rattle.tw_event.specs.Order.{event_before}
use Rattle.tw_exchange.specs.Board.{who, workers}
use Rattle.tw_sim.specs.Ordered.{insert_all}
use Rattle.tw_model.proofs.Lawful.{lawful, numbered}
use Rattle.tw_model.specs.Case.{simulation}
use Rattle.tw_model.specs.declared.limits.TheConstants.{LATEST}
use Rattle.tw_model.specs.State.{State}
use Rattle.tw_model.specs.Summary.{end_of}
use Rattle.tw_parallel.proofs.Shares.{long_shares, share_there, worker_there}
use Rattle.tw_parallel.specs.declared.sim.Sim.TheInside.{Inside}
use Rattle.tw_parallel.specs.Settled.{ahead_of, change_of, states_of}
use Rattle.tw_parallel.specs.Inside.{IsInside, sim_of}
use Rattle.tw_parallel.specs.Sim.{AreOf, IsSim, RetainsEvents, Sim, committed_events, machine, reopened}
use Rattle.tw_rule.proofs.Gives.{rule_reopens}
use Rattle.tw_rule.proofs.Places.{all_at, all_in_map, get_map}
use Rattle.tw_rule.proofs.Ruled.{done_of, good_of_rule, history_of, read_of, seq_of_rule}
use Rattle.tw_rule.specs.Place.{Place, part_of, whole}
use Rattle.tw_rule.specs.Rule.{Stands}
use Rattle.tw_shard.proofs.CommittedEvents.{told}
use Rattle.tw_shard.proofs.Found.{found_at, one_of_all}
use Rattle.tw_shard.specs.Shard.{Shard, no_shard, owns, shard_core}
use Rattle.tw_shard.specs.Shards.{HaveAll, RetainAll, ahead_of_all, change_of_all, committed_of_all, ends_of_all, greatest, history_in, shard_for}
use Rattle.tw_shard.specs.Timeline.{last_change_at}
use Rattle.tw_sim.specs.Simulation.{Simulation, IsFalling, IsLawful, below, state}
use Rattle.tw_table.specs.declared.hand.Hand.{Hand}
use Rattle.tw_table.specs.Shares.{Share, board_of, place_of, share, shares_of}

-- a shard has of a router what the whole machine has
pub record Has (s : Sim) (r : ℕ) (x : Shard) : Type 0 where
  pub case : x.terms.case ≡ s.case
  pub own : owns x r ≡ true
  pub history : (shard_core 0 x).history r ≡ (machine s).history r
  pub done : (shard_core 0 x).done r ≡ (machine s).done r
  pub past : (shard_core 0 x).past r ≡ (machine s).past r
  pub retains : RetainsEvents s → x.terms.retains ≡ true

module _ (s : Sim) (is : IsSim s) where
  pub law : IsLawful (simulation s.case)
  law = lawful s.case is.ruled.is_case

  pub good_of : IsGood (simulation s.case) (machine s)
  good_of = good_of_rule (simulation s.case) law (who s.board) (board_of s.board) (map place_of s.shares) is.ruled.rule

  pub seq_of : IsSeq (simulation s.case) (machine s)
  seq_of = seq_of_rule (simulation s.case) law (who s.board) (numbered s.case is.ruled.is_case) (board_of s.board) (map place_of s.shares) is.ruled.rule

  pub long : length s.shares ≡ workers s.board
  long = is.ruled.count

  -- a share that has a router
  pub has_at : (r : ℕ) → r < s.case.net.nodes → (k : ℕ) (t : Share) → slice_get s.shares k ≡ Some t → owns t.shard r ≡ true → Has s r t.shard
  has_at r l k t there own =
      let ps = map place_of s.shares in
      let x = board_of s.board in
      let place = get_map place_of s.shares k t there in
      record {
        case = all_at (λ (t : Share). t.shard.terms.case ≡ s.case) s.shares k t there is.ruled.cases;
        own = own;
        history = sym (history_of (simulation s.case) law (who s.board) x ps k r (place_of t) is.ruled.rule place l own);
        done = sym (done_of (simulation s.case) law (who s.board) x ps k r (place_of t) is.ruled.rule place l own);
        past = sym (read_of (simulation s.case) law (who s.board) (λ (C : Core Event). C.past r) 0 x ps k r (place_of t) is.ruled.rule place l own);
        retains = λ all. all_at (λ (t : Share). t.shard.terms.retains ≡ true) s.shares k t there all;
      }

  -- the share at the place of a router's worker has it
  pub own_at : (r : ℕ) → r < s.case.net.nodes → (t : Share) → slice_get s.shares (who s.board r) ≡ Some t → owns t.shard r ≡ true
  own_at r l t there =
      let k = who s.board r in
      let place = get_map place_of s.shares k t there in
      let stands = all_at (Stands (simulation s.case) (who s.board) (board_of s.board)) (map place_of s.shares) k (place_of t) place is.ruled.rule.each in
      let worker : t.shard.terms.worker ≡ 0 + k = worker_there 0 (workers s.board) k s.shares t is.order there in
      stands.owns r l ∙ eq-eqb k t.shard.terms.worker (omega arith)

-- what waits at all workers
pub pending_of : (stop : ℕ) (ss : List Shard) (hs : List Hand) → length hs ≡ length ss
    → flat_map (λ (p : Part Event). p.core.pending) (map (part_of stop) (map place_of (shares_of ss hs))) ≡ flat_map (λ (s : Shard). s.pending) ss
pending_of stop [] hs same = refl
pending_of stop (s ∷ ss) [] same = absurd (omega arith)
pending_of stop (s ∷ ss) (h ∷ hs) same = ap (λ es. s.pending ++ es) (pending_of stop ss hs (omega arith))

module _ (a : Inside) (is : IsInside a) where
  abbrev s : Sim
  s = sim_of a

  abbrev ss : List Shard
  ss = a.shards.items

  abbrev m : Simulation State Event
  m = simulation s.case

  -- there are as many shards as workers
  pub all_shards : length ss ≡ workers s.board
  all_shards = let many : length (shares_of ss a.hands.items) ≡ workers s.board = long s is.sim in let count = long_shares ss a.hands.items is.hands in omega arith

  -- the shard of a router's worker has it
  pub own_there : (r : ℕ) → r < s.case.net.nodes → (who s.board r < length ss) × (owns (get_or ss (who s.board r) no_shard) r ≡ true)
  own_there r known =
      let home : who s.board r < workers s.board = is.sim.ruled.rule.routers r known in
      let all = all_shards in
      let within : who s.board r < length ss = omega arith in
      let found = share_there ss a.hands.items (who s.board r) no_shard is.hands within in
      (within, own_at s is.sim r known (share (get_or ss (who s.board r) no_shard) found.0) found.1)

  pub has_there : (r : ℕ) → r < s.case.net.nodes → Has s r (shard_for ss r)
  has_there r known =
      let home = own_there r known in
      let at = found_at ss r (who s.board r) home.0 home.1 in
      let found = share_there ss a.hands.items at.0 no_shard is.hands at.1 in
      subst (Has s r) (sym at.2) (has_at s is.sim r known at.0 (share (get_or ss at.0 no_shard) found.0) found.1 at.3)

  known_there : (r : ℕ) → owns (shard_for ss r) r ≡ true → r < s.case.net.nodes
  known_there r own =
      let all = all_shards in
      let some = is.sim.some in
      let at = one_of_all ss r (omega arith) in
      let found = share_there ss a.hands.items at.0 no_shard is.hands at.1 in
      all_at (AreOf s.case) s.shares at.0 (share (get_or ss at.0 no_shard) found.0) found.1 is.sim.known r (ap (λ x. owns x r) (sym at.2) ∙ own)

  -- the shards are all of the case
  pub have_all : HaveAll s.case ss
  have_all = record {
    some = (let many : length (shares_of ss a.hands.items) ≡ workers s.board = long s is.sim in let count = long_shares ss a.hands.items is.hands in let some = is.sim.some in omega arith);
    cases = λ r known. (has_there r known).case;
    own = λ r known. (has_there r known).own;
  }

  -- of what is no router nothing is there
  none_owned : (r : ℕ) (x : Shard) → s.case.net.nodes ≤ r → (owns x r ≡ true → r < s.case.net.nodes) → owns x r ≡ false
  none_owned r x past known =
      elim (cases_Bool (owns x r)) [
        | inl own ↦ absurd (let within = known own in omega (arith, within, past))
        | inr other ↦ other
      ]

  beyond : {X : Type 0} (read : Core Event → X) (nothing : X) (r : ℕ) → ((t : Share) → AreOf s.case t → read (whole s.board.stop (place_of t)) ≡ nothing)
      → at_owner read nothing (map (part_of s.board.stop) (map place_of s.shares)) r ≡ nothing
  beyond read nothing r none =
      from_owner r read nothing (λ x. x ≡ nothing) refl (map (part_of s.board.stop) (map place_of s.shares))
      (all_in_map (λ (p : Part Event). read p.core ≡ nothing) (part_of s.board.stop) (map place_of s.shares)
      (all_in_map (λ (p : Place Event). read (whole s.board.stop p) ≡ nothing) place_of s.shares
      (all_map (AreOf s.case) (λ (t : Share). read (whole s.board.stop (place_of t)) ≡ nothing) none s.shares is.sim.known)))

  -- histories and commits are those of the whole machine
  history_there : (r : ℕ) → history_in ss r ≡ (machine s).history r
  history_there r =
      elim (cases_Bool (nat_lt r s.case.net.nodes)) [
        | inl known ↦ (has_there r (ltb-true r s.case.net.nodes known)).history
        | inr past ↦ (
            let far = ltb-false r s.case.net.nodes past in
            let here : history_in ss r ≡ [] = rw (none_owned r (shard_for ss r) far (known_there r)) refl in
            here ∙ sym (beyond (λ (C : Core Event). C.history r) [] r (λ t known. rw (none_owned r t.shard far (known r)) refl)))
      ]

  done_there : (r : ℕ) → (shard_core 0 (shard_for ss r)).done r ≡ (machine s).done r
  done_there r =
      elim (cases_Bool (nat_lt r s.case.net.nodes)) [
        | inl known ↦ (has_there r (ltb-true r s.case.net.nodes known)).done
        | inr past ↦ (
            let far = ltb-false r s.case.net.nodes past in
            let here : (shard_core 0 (shard_for ss r)).done r ≡ 0 = rw (none_owned r (shard_for ss r) far (known_there r)) refl in
            here ∙ sym (beyond (λ (C : Core Event). C.done r) 0 r (λ t known. rw (none_owned r t.shard far (known r)) refl)))
      ]

  histories : (λ r. history_in ss r) ≡ (machine s).history
  histories = fun_ext history_there

  commits : (λ r. (shard_core 0 (shard_for ss r)).done r) ≡ (machine s).done
  commits = fun_ext done_there

  pub retain_all : RetainsEvents s → RetainAll s.case ss
  retain_all each = record {
    retains = λ r known. (has_there r known).retains each;
    falling = subst (λ (h : ℕ → List Event). (r : ℕ) → IsFalling m (h r)) (sym histories) (good_of s is.sim).falling;
  }

  -- so what is read of all shards is read of that machine
  pub same_committed : committed_of_all s.case ss ≡ committed_events s
  same_committed = λ i. insert_all event_before (flat_map (λ r. below m (commits i r) (histories i r)) (range_with_len 0 s.case.net.nodes)) []

  pub same_ahead : ahead_of_all s.case ss ≡ total (λ r. ahead_of s r) (range_with_len 0 s.case.net.nodes)
  same_ahead = λ i. total (λ r. length (histories i r) - length (below m (commits i r) (histories i r))) (range_with_len 0 s.case.net.nodes)

  pub same_change : change_of_all s.case ss ≡ greatest (λ r. change_of s r) (range_with_len 0 s.case.net.nodes)
  same_change = λ i. greatest (λ r. last_change_at s.case.net r (histories i r)) (range_with_len 0 s.case.net.nodes)

  pub same_ends : ends_of_all s.case ss ≡ map end_of (states_of s)
  same_ends =
      (λ i. map (λ r. end_of (state m r (histories i r))) (range_with_len 0 s.case.net.nodes))
      ∙ sym (map-map end_of (λ r. state m r ((machine s).history r)) (range_with_len 0 s.case.net.nodes))

  pub same_router : (r : ℕ) → told s.case r (history_in ss r) ≡ told s.case r ((machine s).history r)
  same_router r = ap (told s.case r) (history_there r)

  pub same_pending : flat_map (λ (x : Shard). x.pending) ss ≡ (machine s).pending
  same_pending = sym (pending_of s.board.stop ss a.hands.items is.hands)

-- the stop may rise
pub reopens : (s : Sim) → IsSim s → (stop : ℕ) → s.board.stop ≤ stop → stop ≤ LATEST → IsSim (reopened stop s)
reopens s is stop least most = record {
  some = is.some;
  order = is.order;
  ruled = record {
    is_case = is.ruled.is_case;
    cases = is.ruled.cases;
    count = is.ruled.count;
    rule = rule_reopens (simulation s.case) (who s.board) (board_of s.board) (map place_of s.shares) stop least is.ruled.rule;
  };
  known = is.known;
  alike = is.alike;
  stop = most;
}
