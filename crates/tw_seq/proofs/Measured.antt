-- A run has handled as many events as its routers have counted.
use Rattle.std.proofs.Common.{◌≡◌, ℕ, suc, zero, ◌+◌, [], ◌∷◌, ◌++◌, length, reverse, refl, ap, sym, ◌∙◌, subst, arith}
use Rattle.std.specs.List.{range_with_len}
use Rattle.std.proofs.lemmas.List.{length-reverse, reverse-reverse}
use Rattle.std.proofs.Math.ListN.{length-append}
use Rattle.tw_event.specs.declared.event.Event.{Event}
use Rattle.tw_model.specs.Case.{Case, IsCase, simulation}
use Rattle.tw_sim.specs.Seq.{World, begin, turn, turns}
use Rattle.tw_sim.proofs.Seq.{Ends, ends, over, soon, turn_over, turns-add}
use Rattle.tw_seq.specs.Run.{IsBegun, Run, routers_after, world}
use Rattle.tw_seq.specs.Thread.{handled_count}
use Rattle.tw_seq.proofs.Counted.{count_handled, count_opening}
use Rattle.tw_seq.proofs.Homes.{next_run, next_world}
use Rattle.tw_seq.proofs.Next.{IsReady, next_routers, next_within}
use Rattle.tw_seq.proofs.Resumed.{at_world, begun_turns, same_world}

-- the routers of a world have counted its events
abbrev IsMeasured : Case → World Event → Type 0
IsMeasured case w = handled_count (routers_after case (reverse w.log)) ≡ length w.log

module _ (case : Case) (is : IsCase case) (stop : ℕ) where
  measured_begin : IsMeasured case (begin (simulation case))
  measured_begin = count_opening case.net (range_with_len 0 case.net.nodes)

  -- one turn more
  measured_turn : (w : World Event) → IsBegun (at_world case stop w) → IsMeasured case w → Ends (simulation case) stop w
      → IsMeasured case (turn (simulation case) stop w.log w.rest)
  measured_turn w begun measured (over none) = subst (IsMeasured case) (sym (turn_over (simulation case) stop w none)) measured
  measured_turn w begun measured (soon {log = done} {x = e} {rest = later} in_time) =
      let m = simulation case in
      let run = at_world case stop w in
      let ready : IsReady run (routers_after case run.events) e = record { begun = begun; are = refl; next = (later, refl, in_time) } in
      let new = world (next_run run e later) in
      let turned : turn m stop done (e ∷ later) ≡ new = ap (λ v. turns m 1 stop v) (sym (same_world case stop w)) ∙ next_world run e later stop refl in_time in
      let events : reverse new.log ≡ run.events ++ e ∷ [] = reverse-reverse (run.events ++ e ∷ []) in
      let count : handled_count (routers_after case (reverse new.log)) ≡ length done + 1 =
      ap (λ xs. handled_count (routers_after case xs)) events
      ∙ (ap handled_count (sym (next_routers ready)) ∙ (count_handled (routers_after case run.events) e (next_within ready) ∙ ap (λ n. n + 1) measured)) in
      let size : length new.log ≡ length done + 1
      = length-reverse (run.events ++ e ∷ []) ∙ (length-append run.events (e ∷ []) ∙ ap (λ n. n + 1) (length-reverse done)) in
      subst (IsMeasured case) (sym turned) (count ∙ sym size)

  measured_turns : (n : ℕ) → IsMeasured case (turns (simulation case) n stop (begin (simulation case)))
  measured_turns zero = measured_begin
  measured_turns (suc n) =
      let m = simulation case in
      let w = turns m n stop (begin m) in
      let one_more : n + 1 ≡ suc n = omega arith in
      let more : turn m stop w.log w.rest ≡ turns m (suc n) stop (begin m) = turns-add m n 1 stop (begin m) ∙ ap (λ k. turns m k stop (begin m)) one_more in
      subst (IsMeasured case) more (measured_turn w (begun_turns case is stop n) (measured_turns n) (ends m stop w))

-- as many as it has events
pub count_is : (run : Run) → IsBegun run → handled_count (routers_after run.case run.events) ≡ length run.events
count_is run begun =
    let there : IsMeasured run.case (world run) = subst (IsMeasured run.case) begun.turns.1 (measured_turns run.case begun.case run.stop begun.turns.0) in
    ap (λ events. handled_count (routers_after run.case events)) (sym (reverse-reverse run.events)) ∙ (there ∙ length-reverse run.events)
