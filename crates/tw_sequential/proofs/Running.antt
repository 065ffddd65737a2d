-- A sequential run, from its opening, one event after the other, to its stop.
use Rattle.std.proofs.Common.{◌≡◌, ℕ, ◌+◌, ◌<◌, ◌≤◌, ◌⊎◌, true, List, [], ◌∷◌, drop, length, refl, ap, sym, ◌∙◌, subst, arith}
use Rattle.tw_process.specs.declared.limits.TheConstants.{LATEST}
use Rattle.tw_sequential.specs.declared.limits.TheConstants.{MOST_EVENTS}
use Rattle.tw_sequential.specs.Run.{Continues, IsBegun, IsNext, IsNextRun, IsStuck, NoneBefore, Run, complete_run, run_after, world, world_after}
use Rattle.tw_sequential.specs.States.{AreStates, IsRunWith}
use Rattle.tw_sim.specs.Seq.{begin, finished, insert_all, seq, turns, weight}
use Rattle.tw_sim.specs.Simulation.{Simulation, IsLawful, only, state, times}
use Rattle.tw_sim.proofs.Counts.{in_head}
use Rattle.tw_sim.proofs.Rising.{AllSuit, suit-begin, suit-turns}
use Rattle.tw_sim.proofs.Seq.{IsOver, finished_over, finished_turns, turn_soon, turns-add, turns_later, weight-turn}

-- where no event is before t, none is left to be handled
over : {S E : Type 0} (m : Simulation S E) (t : ℕ) (events : List E) → NoneBefore m t events → IsOver m t events
over m t [] h = h
over m t (e ∷ events) h = h

module _ {M S E : Type 0} (m : Simulation S E) where
  -- a run is a prefix of the run to each later stop
  pub begun_later : (run : Run M E) (stop : ℕ) → run.stop ≤ stop → IsBegun m run → IsBegun m (record run { stop = stop })
  begun_later run stop le h =
      let k = turns_later m h.0 run.stop stop (begin m) le in
      (k.0, k.1 ∙ h.1)

  pub continues_next : (a b c : Run M E) → Continues m a b → IsNextRun m b c → Continues m a c
  continues_next a b c h next =
      let both = sym (turns-add m h.0 1 b.stop (world m a)) ∙ (ap (λ w. turns m 1 b.stop w) h.1 ∙ next.2) in
      (h.0 + 1, subst (λ t. turns m (h.0 + 1) t (world m a) ≡ world m c) (sym next.1) both)

  pub begun_next : (b c : Run M E) → IsBegun m b → IsNextRun m b c → IsBegun m c
  begun_next b c h next =
      let both = sym (turns-add m h.0 1 b.stop (begin m)) ∙ (ap (λ w. turns m 1 b.stop w) h.1 ∙ next.2) in
      (h.0 + 1, subst (λ t. turns m (h.0 + 1) t (begin m) ≡ world m c) (sym next.1) both)

  -- one turn, where e is next
  turn_next : (run : Run M E) (e : E) (t : ℕ) (next : IsNext m run e) → m.time e < t
      → turns m 1 t (world m run) ≡ record { log = e ∷ run.log; rest = insert_all m (m.sends (state m (m.dst e) (only m (m.dst e) run.log)) e) next.0 }
  turn_next run e t next soon =
      ap (λ rest. turns m 1 t (record { log = run.log; rest = rest })) next.1 ∙ turn_soon m t run.log e next.0 soon

  module _ (law : IsLawful m) where
    -- each event handled leaves less to do
    pub weight_next : (b c : Run M E) (e : E) → IsNext m b e → IsNextRun m b c → weight m c.stop c.rest < weight m b.stop b.rest
    weight_next b c e first next =
        let fewer = weight-turn m law b.stop b.log e first.0 first.2 in
        let from : turns m 1 b.stop (record { log = b.log; rest = e ∷ first.0 }) ≡ world m c =
        subst (λ events. turns m 1 b.stop (record { log = b.log; rest = events }) ≡ world m c) first.1 next.2 in
        let left : weight m b.stop c.rest < weight m b.stop (e ∷ first.0) = subst (λ v. weight m b.stop v.rest < weight m b.stop (e ∷ first.0)) from fewer in
        let now : weight m b.stop c.rest < weight m b.stop b.rest = subst (λ events. weight m b.stop c.rest < weight m b.stop events) (sym first.1) left in
        subst (λ t. weight m t c.rest < weight m b.stop b.rest) (sym next.1) now

    -- a run with nothing pending before its stop is complete
    pub complete_at : (run : Run M E) → IsBegun m run → NoneBefore m run.stop run.rest → run ≡ complete_run m run.model run.stop
    complete_at run h none =
        let w = world m run in
        let whole : w ≡ seq m run.stop =
        sym (finished_over m law run.stop w (over m run.stop run.rest none)) ∙ (ap (finished m run.stop) (sym h.1) ∙ finished_turns m law h.0 run.stop run.stop (begin m) (omega arith)) in
        ap (λ v. record { model = run.model; stop = run.stop; log = v.log; rest = v.rest }) whole

    -- the next event suits its receiver
    pub next_suits : (run : Run M E) (e : E) → IsBegun m run → IsNext m run e → m.suits e ≡ true
    next_suits run e h next =
        let all = subst (λ w. AllSuit m w) h.1 (suit-turns m law h.0 run.stop (begin m) (suit-begin m law)) in
        all.pending e (subst (λ xs. 0 < times m e xs) (sym next.1) (in_head m law e next.0))

  -- where the run is stuck, its next event is the one that is full
  pub stuck_at : (run : Run M E) (e : E) → IsNext m run e → IsStuck m run → (m.full (state m (m.dst e) (only m (m.dst e) run.log)) e ≡ true) ⊎ (MOST_EVENTS ≤ length run.log)
  stuck_at run e next stuck =
      let same : stuck.0 ≡ e = cc (stuck.1.1, next.1) in
      subst (λ x. (m.full (state m (m.dst x) (only m (m.dst x) run.log)) x ≡ true) ⊎ (MOST_EVENTS ≤ length run.log)) same stuck.2

  module _ {T : Type 0} (is_state : ℕ → T → Type 0) (known : T → S) where
    -- a run that begins
    pub opened : (model : M) (pending : List E) (states : List T) → pending ≡ (begin m).rest → AreStates m is_state known [] states
        → IsRunWith m is_state known (run_after m model 0 0 pending) 0 states
    opened model pending states h are = record {
      begun = (0, ap (λ xs. record { log = []; rest = xs }) (sym h));
      after = ap (λ xs. record { log = []; rest = xs }) (sym h);
      counted = refl;
      stop = omega arith;
      are = are;
    }

    -- the stop is raised
    pub raised : (model : M) (stop later n : ℕ) (pending : List E) (states : List T) → stop ≤ later → later ≤ LATEST
        → IsRunWith m is_state known (run_after m model stop n pending) n states → IsRunWith m is_state known (run_after m model later n pending) n states
    raised model stop later n pending states le most kept = record {
      begun = begun_later (run_after m model stop n pending) later le kept.begun;
      after = kept.after;
      counted = kept.counted;
      stop = most;
      are = kept.are;
    }

    module _ (model : M) (stop n : ℕ) (pending : List E) (states : List T) (kept : IsRunWith m is_state known (run_after m model stop n pending) n states) (e : E)
        (next : IsNext m (run_after m model stop n pending) e) where
      -- the run
      abbrev now : Run M E
      now = run_after m model stop n pending

      -- what e sends
      abbrev sent : List E
      sent = m.sends (state m (m.dst e) (only m (m.dst e) now.log)) e

      module _ (s : S) (left : List E) (is : s ≡ state m (m.dst e) (only m (m.dst e) now.log)) (put : left ≡ insert_all m (m.sends s e) (drop 1 pending)) where
        left_is : left ≡ insert_all m sent next.0
        left_is = put ∙ (ap (λ x. insert_all m (m.sends x e) (drop 1 pending)) is ∙ ap (λ xs. insert_all m sent (drop 1 xs)) next.1)

        to_next : (t : ℕ) → m.time e < t → turns m 1 t (world m now) ≡ record { log = e ∷ now.log; rest = left }
        to_next t soon = turn_next now e t next soon ∙ ap (λ xs. record { log = e ∷ now.log; rest = xs }) (sym left_is)

        -- one event more than were handled
        after_next : world_after m (n + 1) ≡ record { log = e ∷ now.log; rest = left }
        after_next =
            sym (turns-add m n 1 LATEST (begin m)) ∙ (ap (λ w. turns m 1 LATEST w) kept.after ∙ to_next LATEST (let early = kept.stop in let soon = next.2 in omega arith))

        -- the run then
        log_next : (world_after m (n + 1)).log ≡ e ∷ now.log
        log_next = ap (λ w. w.log) after_next

        world_next : world m (run_after m model stop (n + 1) left) ≡ record { log = e ∷ now.log; rest = left }
        world_next = ap (λ xs. record { log = xs; rest = left }) log_next

        pub is_next : IsNextRun m now (run_after m model stop (n + 1) left)
        is_next = (refl, refl, to_next stop next.2 ∙ sym world_next)

        pub kept_next : (after : List T) → AreStates m is_state known (e ∷ now.log) after → IsRunWith m is_state known (run_after m model stop (n + 1) left) (n + 1) after
        kept_next after are = record {
          begun = begun_next now (run_after m model stop (n + 1) left) kept.begun is_next;
          after = after_next ∙ sym world_next;
          counted = ap length log_next ∙ (let counted = kept.counted in omega arith);
          stop = kept.stop;
          are = subst (λ log. AreStates m is_state known log after) (sym log_next) are;
        }
