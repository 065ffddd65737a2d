-- The run of a case to a stop, by the fields of a run on one thread.
use Rattle.std.proofs.Common.{◌≡◌, ◌≤◌, ◌<◌, ℕ, suc, zero, ◌+◌, [], ◌∷◌, ◌++◌, reverse, refl, ap, sym, ◌∙◌, subst, arith}
use Rattle.std.specs.List.{range_with_len}
use Rattle.std.proofs.lemmas.List.{reverse-reverse}
use Rattle.tw_event.specs.declared.event.Event.{Event}
use Rattle.tw_model.specs.declared.limits.TheConstants.{LATEST}
use Rattle.tw_model.specs.Case.{Case, IsCase, simulation}
use Rattle.tw_model.specs.Quiet.{last_change}
use Rattle.tw_sim.specs.Seq.{World, begin, finished, log, rest, seq, turn, turns, weight}
use Rattle.tw_sim.proofs.Seq.{Ends, ends, over, soon, turn_over, turns-add}
use Rattle.tw_seq.specs.declared.one_thread.OneThread.TheInside.{Inside}
use Rattle.tw_seq.specs.Run.{IsBegun, Run, complete_run, routers_after, world}
use Rattle.tw_seq.specs.Thread.{IsThread, handled_count, run_of, world_after}
use Rattle.tw_seq.proofs.Counted.{count_handled, count_opening}
use Rattle.tw_seq.proofs.Homes.{next_run, next_world}
use Rattle.tw_seq.proofs.Next.{IsReady, next_routers, next_within}
use Rattle.tw_seq.proofs.Steps.{goes_on}

-- the run to this stop that has come to this world
abbrev pub at_world : Case → ℕ → World Event → Run
at_world case stop w = record { case = case; stop = stop; events = reverse w.log; pending = w.rest }

pub same_world : (case : Case) (stop : ℕ) (w : World Event) → world (at_world case stop w) ≡ w
same_world case stop w = λ i. record { log = reverse-reverse w.log i; rest = w.rest }

-- it has come there on its way to the stop
pub begun_turns : (case : Case) → IsCase case → (stop n : ℕ) → IsBegun (at_world case stop (turns (simulation case) n stop (begin (simulation case))))
begun_turns case is stop n = record { case = is; turns = (n, sym (same_world case stop (turns (simulation case) n stop (begin (simulation case))))) }

-- it has come there in as many turns as its routers have counted events
abbrev IsCounted : Case → World Event → Type 0
IsCounted case w = world_after case (handled_count (routers_after case (reverse w.log))) ≡ w

module _ (case : Case) (is : IsCase case) (stop : ℕ) (early : stop ≤ LATEST) where
  counted_begin : IsCounted case (begin (simulation case))
  counted_begin = ap (world_after case) (count_opening case.net (range_with_len 0 case.net.nodes))

  -- one turn more
  counted_turn : (w : World Event) → IsBegun (at_world case stop w) → IsCounted case w → Ends (simulation case) stop w
      → IsCounted case (turn (simulation case) stop w.log w.rest)
  counted_turn w begun counted (over none) = subst (IsCounted case) (sym (turn_over (simulation case) stop w none)) counted
  counted_turn w begun counted (soon {log = done} {x = e} {rest = later} in_time) =
      let m = simulation case in
      let run = at_world case stop w in
      let n = handled_count (routers_after case run.events) in
      let ready : IsReady run (routers_after case run.events) e = record { begun = begun; are = refl; next = (later, refl, in_time) } in
      let in_all : e.time < LATEST = omega arith in
      let new = world (next_run run e later) in
      let turned : turn m stop done (e ∷ later) ≡ new = ap (λ v. turns m 1 stop v) (sym (same_world case stop w)) ∙ next_world run e later stop refl in_time in
      let events : reverse new.log ≡ run.events ++ e ∷ [] = reverse-reverse (run.events ++ e ∷ []) in
      let count : handled_count (routers_after case (reverse new.log)) ≡ n + 1 =
      ap (λ xs. handled_count (routers_after case xs)) events
      ∙ (ap handled_count (sym (next_routers ready)) ∙ count_handled (routers_after case run.events) e (next_within ready)) in
      let reached : world_after case (n + 1) ≡ new =
      goes_on m n 1 LATEST (world run) new (counted ∙ sym (same_world case stop w)) (next_world run e later LATEST refl in_all) in
      subst (IsCounted case) (sym turned) (ap (world_after case) count ∙ reached)

  counted_turns : (n : ℕ) → IsCounted case (turns (simulation case) n stop (begin (simulation case)))
  counted_turns zero = counted_begin
  counted_turns (suc n) =
      let m = simulation case in
      let w = turns m n stop (begin m) in
      let one_more : n + 1 ≡ suc n = omega arith in
      let more : turn m stop w.log w.rest ≡ turns m (suc n) stop (begin m) = turns-add m n 1 stop (begin m) ∙ ap (λ k. turns m k stop (begin m)) one_more in
      subst (IsCounted case) more (counted_turn w (begun_turns case is stop n) (counted_turns n) (ends m stop w))

  all_turns : turns (simulation case) (weight (simulation case) stop (begin (simulation case)).rest) stop (begin (simulation case)) ≡ seq (simulation case) stop
  unfolding finished
  all_turns = refl

  pub begun_complete : IsBegun (complete_run case stop)
  begun_complete = subst (λ w. IsBegun (at_world case stop w)) all_turns (begun_turns case is stop (weight (simulation case) stop (begin (simulation case)).rest))

  counted_complete : IsCounted case (seq (simulation case) stop)
  counted_complete = subst (IsCounted case) all_turns (counted_turns (weight (simulation case) stop (begin (simulation case)).rest))

-- the fields have what the run to a stop has left
pub record IsResumed (a : Inside) : Type 0 where
  pub case : IsCase a.case.now
  pub stop : a.stop ≤ LATEST
  pub routers : a.routers.items ≡ routers_after a.case.now (complete_run a.case.now a.stop).events
  pub pending : a.pending.events ≡ rest (simulation a.case.now) a.stop
  pub homes : a.pending.routers ≡ a.case.now.net.nodes
  pub change : a.last_change ≡ last_change a.case.now (log (simulation a.case.now) a.stop)
  pub sent : a.sends.items ≡ []

module _ (a : Inside) (h : IsResumed a) where
  there : world_after a.case.now (handled_count a.routers.items) ≡ seq (simulation a.case.now) a.stop
  there = ap (λ rs. world_after a.case.now (handled_count rs)) h.routers ∙ counted_complete a.case.now h.case a.stop h.stop

  pub resumed_is : run_of a ≡ complete_run a.case.now a.stop
  resumed_is = λ i. record { case = a.case.now; stop = a.stop; events = reverse (there i).log; pending = h.pending i }

  pub resumed_thread : IsThread a
  resumed_thread = record {
    begun = subst IsBegun (sym resumed_is) (begun_complete a.case.now h.case a.stop h.stop);
    waiting = h.pending ∙ sym (ap (λ w. w.rest) there);
    stop = h.stop;
    routers = h.routers ∙ sym (ap (λ w. routers_after a.case.now (reverse w.log)) there);
    homes = h.homes;
    change =
        h.change
        ∙ (ap (λ w. last_change a.case.now w.log) (sym there)
        ∙ ap (last_change a.case.now) (sym (reverse-reverse (world_after a.case.now (handled_count a.routers.items)).log)));
    sent = h.sent;
  }
