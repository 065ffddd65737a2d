-- A good state is the one-thread run, as far as it is committed and as far as its bound.
use Rattle.std.proofs.Common.{◌≡◌, ℕ, ◌<◌, ◌≤◌, List, [], ap, sym, ◌∙◌, arith, nat_lt}
use Rattle.std.proofs.lemmas.Bool.{ltb-true, lt-ltb}
use Rattle.tw_core.proofs.Counts.{none_there}
use Rattle.tw_core.proofs.Steps.{good_opening, run_keeps}
use Rattle.tw_core.specs.Good.{IsGood, due}
use Rattle.tw_core.specs.Machine.{Core, IsOpening, messages, times_handled}
use Rattle.tw_core.specs.Run.{IsAtEnd, IsSeq, IsSettled}
use Rattle.tw_core.specs.Steps.{run}
use Rattle.tw_sim.proofs.Closed.{asked_once, histories_are_log, log_closed, running_seq}
use Rattle.tw_sim.proofs.Counts.{in_filter, none, times-filter-yes, times-insert_all}
use Rattle.tw_sim.proofs.Rising.{rising-insert_all, same_rising}
use Rattle.tw_sim.proofs.Unique.{all_below, falling-filter, in_only, same_falling, sent_before, sent_by_source}
use Rattle.tw_sim.specs.declared.machine.Step.{Step}
use Rattle.tw_sim.specs.Seq.{log}
use Rattle.tw_sim.specs.Simulation.{Simulation, AreClosed, IsLawful, IsNumbered, below, only, state, times}

module _ {S E : Type 0} (m : Simulation S E) (law : IsLawful m) where
  -- below the bound all that was asked for is handled, and nothing else
  asked : (C : Core E) → IsGood m C → (e : E) → m.time e < C.bound → times_handled m C e ≡ due m C e
  asked C good e h = grind arith

  -- up to each time to the bound, the histories are closed
  pub good_closed : (C : Core E) → IsGood m C → (t : ℕ) → t ≤ C.bound → AreClosed m t (λ r. below m t (C.history r))
  good_closed C good t le = grind (arith, nat_lt, falling-filter, in_filter, ltb-true, asked, sent_before, times-filter-yes, lt-ltb)

  -- where nothing is in flight, nothing is kept
  pub none_kept : (C : Core E) → IsGood m C → C.flight ≡ [] → C.kept ≡ []
  none_kept C good none_flies =
      none_there m law C.kept (λ e. none (times m e C.kept) (λ h.
      let alone = good.part.alone e h in
      let pending = alone.0 in
      let handled = alone.1 in
      let balance = good.balance e in
      let no_messages : messages m e C.flight ≡ 0 = ap (messages m e) none_flies in
      omega arith))

  module _ (numbered : IsNumbered m) where
    -- so they are those of the run
    pub good_log : (C : Core E) → IsGood m C → (t : ℕ) → t ≤ C.bound → (r : ℕ) → below m t (C.history r) ≡ only m r (log m t)
    good_log C good t le r = histories_are_log m law numbered t (λ q. below m t (C.history q)) (good_closed C good t le) r

    -- the committed events and states are those of the run
    pub good_is_seq : (C : Core E) → IsGood m C → IsSeq m C
    good_is_seq C good = record {
      events = λ r. good_log C good (C.done r) (good.done r) r;
      states = λ r. ap (state m r) (good_log C good (C.done r) (good.done r) r);
      handled = λ r. good_log C good C.bound (omega arith) r;
      together = λ all events falling exact.
          let closed = log_closed m law numbered C.bound in
          let of_log = λ (e : E). ap (times m e) (good_log C good C.bound (omega arith) (m.dst e)) in
          same_falling m law events (log m C.bound) falling closed.falling
          (λ e h. (
          let there = in_filter m law (λ x. nat_lt (m.time x) (C.done (m.dst e))) e (C.history (m.dst e)) ((exact e).0 h) in
          let before = ltb-true (m.time e) (C.done (m.dst e)) there.0 in
          let handled = there.1 in
          let late = good.done (m.dst e) in
          let below_bound = times-filter-yes m law (λ x. nat_lt (m.time x) C.bound) e (C.history (m.dst e)) (lt-ltb (m.time e) C.bound (omega arith)) in
          let same = of_log e in
          let here = in_only m law e (log m C.bound) in
          omega arith))
          (λ e h. (
          let same = of_log e in
          let here = in_only m law e (log m C.bound) in
          let there = in_filter m law (λ x. nat_lt (m.time x) C.bound) e (C.history (m.dst e)) (omega arith) in
          let is_committed = all e there.1 (ltb-true (m.time e) C.bound there.0) in
          let count = times-filter-yes m law (λ x. nat_lt (m.time x) (C.done (m.dst e))) e (C.history (m.dst e)) (lt-ltb (m.time e) (C.done (m.dst e)) is_committed) in
          let handled = there.1 in
          (exact e).1 (omega arith)));
    }

    -- from the opening on, after every list of steps
    pub always_seq : (C : Core E) → IsOpening m C → (xs : List Step) → IsSeq m (run m C xs)
    always_seq C opens xs = good_is_seq (run m C xs) (run_keeps m law C xs (good_opening m law C opens)).good

    -- the bound could be the stop
    good_to_stop : (C : Core E) → IsGood m C → IsSettled m C → IsGood m (record C { bound = C.stop })
    good_to_stop C good settled = grind arith

    -- where nothing is in flight and nothing waits before the stop, the state is that at the end of the run
    pub at_end : (C : Core E) → IsGood m C → IsSettled m C → IsAtEnd m C
    at_end C good settled =
        let whole : (r : ℕ) → C.history r ≡ only m r (log m C.stop) = λ r.
        sym (all_below m law C.stop (C.history r) (good.part.soon r)) ∙ good_log (record C { bound = C.stop }) (good_to_stop C good settled) C.stop (omega arith) r in
        let running = running_seq m law numbered C.stop in
        record {
          kept = none_kept C good settled.flight;
          events = whole;
          states = λ r. ap (state m r) (whole r);
          pending = grind (arith, same_rising, rising-insert_all, times-insert_all, none_kept, sent_by_source, in_only);
        }

    -- an event is asked for once at most
    pub due_once : (C : Core E) (e : E) → due m C e ≤ 1
    due_once C e = asked_once m law numbered (m.src e) (C.history (m.src e)) e
