-- A machine at a cut of the one-thread run is good, and a good one that has come to its stop stands at a cut.
use Rattle.std.proofs.Common.{◌≡◌, ℕ, ◌<◌, ◌==◌, List, [], ◌∷◌, ap, sym, subst, inl, inr, arith}
use Rattle.std.proofs.lemmas.Bool.{cases_lt, eqb-true}
use Rattle.tw_core.proofs.Headline.{at_end}
use Rattle.tw_core.specs.Cut.{IsCut}
use Rattle.tw_core.specs.Good.{IsGood}
use Rattle.tw_core.specs.Machine.{Core, IsOpening, antimessages, messages, times_handled, times_loose}
use Rattle.tw_core.specs.Run.{IsSettled}
use Rattle.tw_sim.proofs.Closed.{rest_late, running_seq}
use Rattle.tw_sim.proofs.Counts.{in_filter, times-insert_all}
use Rattle.tw_sim.proofs.Rising.{AllSuit, suit-begin, suit-turns}
use Rattle.tw_sim.proofs.Seq.{IsOver, finished_over}
use Rattle.tw_sim.proofs.Unique.{falling-filter, in_only, sent_by_source}
use Rattle.tw_sim.specs.Seq.{begin, finished, log, rest, seq, weight}
use Rattle.tw_sim.specs.Simulation.{Simulation, IsFalling, IsLawful, IsNumbered, times}

module _ {S E : Type 0} (m : Simulation S E) (law : IsLawful m) where
  -- each event of a run suits its receiver
  pub run_suits : (t : ℕ) → AllSuit m (seq m t)
  unfolding finished
  run_suits t = suit-turns m law (weight m t (begin m).rest) t (begin m) (suit-begin m law)

  -- the run to the beginning of time
  over_begin : (xs : List E) → IsOver m 0 xs
  over_begin [] = tt
  over_begin (x ∷ xs) = omega arith

  pub run_to_zero : seq m 0 ≡ begin m
  run_to_zero = finished_over m law 0 (begin m) (over_begin (begin m).rest)

  -- a machine that begins stands at a cut
  pub cut_opens : (C : Core E) → IsOpening m C → IsCut m 0 C
  cut_opens C opens = grind (arith, run_to_zero, times-insert_all)

  module _ (numbered : IsNumbered m) where
    -- a machine at a cut is good
    pub good_at_cut : (t : ℕ) (C : Core E) → IsCut m t C → IsGood m C
    good_at_cut t C cut =
        let run = running_seq m law numbered t in
        let suits = run_suits t in
        let past : (r : ℕ) (e : E) → 0 < times m e (C.history r) → (m.dst e ≡ r) × (0 < times m e (log m t)) = λ r e h.
        (let there = in_filter m law (λ x. m.dst x == r) e (log m t) (subst (λ xs. 0 < times m e xs) (cut.history r) h) in
        (eqb-true (m.dst e) r there.0, there.1)) in
        let loose : (e : E) → times_loose m C e ≡ times m e (rest m t) = λ e.
        (let waits = cut.pending e in
        let none_kept : times m e C.kept ≡ 0 = ap (times m e) cut.kept in
        let no_messages : messages m e C.flight ≡ 0 = ap (messages m e) cut.flight in
        let no_antimessages : antimessages m e C.flight ≡ 0 = ap (antimessages m e) cut.flight in
        let none_held : times m e C.held ≡ 0 = ap (times m e) cut.held in
        omega arith) in
        record {
          part = record {
            falling = λ r. subst (IsFalling m) (sym (cut.history r)) (falling-filter m law (λ x. m.dst x == r) (log m t) run.falling);
            home = λ r e h. (past r e h).0;
            soon = λ r e h. (let before = run.soon e (past r e h).1 in let last = cut.stop in omega arith);
            late = λ e h. (let all = loose e in let after = rest_late m law numbered t e (omega arith) in let to = cut.bound in omega arith);
            ahead = λ e x h handled. run.ahead e x (let waits = cut.pending e in omega arith) (past (m.dst e) x handled).1;
            alone = λ e h. absurd (let none_kept : times m e C.kept ≡ 0 = ap (times m e) cut.kept in omega arith);
            suit = λ e h. elim (cases_lt 0 (times_handled m C e)) [
              | inl l ↦ suits.handled e (past (m.dst e) e l).1
              | inr ge ↦ suits.pending e (let all = loose e in omega arith)
            ];
          };
          balance = λ e. grind (arith, sent_by_source, in_only);
          done = λ r. (let low = cut.done r in let to = cut.bound in omega arith);
          bound = (let to = cut.bound in let last = cut.stop in omega arith);
        }

    -- and a good one that is settled, its bound come to the stop, stands at a cut there
    pub cut_at_stop : (C : Core E) → IsGood m C → IsSettled m C → C.bound ≡ C.stop → IsCut m C.stop C
    cut_at_stop C good settled last =
        let end = at_end m law numbered C good settled in
        record {
          history = end.events;
          pending = λ e. grind (arith, times-insert_all);
          kept = end.kept;
          flight = settled.flight;
          held = settled.held;
          done = λ r. (let low = good.done r in omega arith);
          bound = last;
          stop = omega arith;
        }
