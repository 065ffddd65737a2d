-- How a run by workers goes on, and why it stops.
use Rattle.std.proofs.Common.{◌≡◌, ℕ, ◌≤◌, ◌<◌, List, false, true, true≢false, replicate, refl, slice_get, sym, subst, ◌∙◌, arith, Result, Ok, Err, Some}
use Rattle.std.specs.Prelude.{IfOk}
use Rattle.tw_exchange.specs.Board.{who, workers}
use Rattle.tw_handlers.specs.Calls.{counter_full}
use Rattle.tw_handlers.specs.declared.fault.CounterFull.{CounterFull as AFullCounter}
use Rattle.tw_model.specs.Case.{Case}
use Rattle.tw_model.specs.declared.memory.OrMemory.{OrMemory}
use Rattle.tw_model.specs.declared.memory.OrMemory.TheVariants as or_memory
use Rattle.tw_options.specs.declared.command_line.Asked.{Asked as AnAsked}
use Rattle.tw_parallel.proofs.Rounds.{goes_on_both}
use Rattle.tw_parallel.specs.Settled.{IsSettled}
use Rattle.tw_parallel.specs.Sim.{GoesOn, HasSameOwners, Sim, cancels_of}
use Rattle.tw_run.proofs.Dealt.{dealt_out, goes_on_same, still_dealt}
use Rattle.tw_run.specs.Dealing.{AreDealtAs, owners_after}
use Rattle.tw_run.specs.Ran.{HasCome, HasComeTo, HasStoppedBy, HaveComeAsChosen, IsBy, IsLeftBy, IsRunBy, IsRunByAny, MayStop}
use Rattle.tw_run.specs.declared.ran.By.{By}
use Rattle.tw_run.specs.declared.ran.By.TheVariants as by
use Rattle.tw_pace.specs.declared.pace.TheConstants.{MOST_WORKERS_CHOSEN}
use Rattle.tw_run.specs.Stopped.{HasStopped, TellsEnd, stopped_alone}
use Rattle.tw_run.specs.declared.cause.Stopped.{Stopped}
use Rattle.tw_run.specs.declared.cause.Stopped.TheVariants.{Memory, NoThread, Full}
use Rattle.tw_seq.specs.Run.{GetsStuck}
use Rattle.tw_threads.specs.Left.{IsFullAhead}
use Rattle.tw_threads.specs.declared.end_cause.EndCause.{EndCause}
use Rattle.tw_threads.specs.declared.end_cause.EndCause.TheVariants as ended

-- what stops a later run stops the one before it
pub stopped_before : (s t : Sim) (why : Stopped Sim) → GoesOn s t → HasStopped t why → HasStopped s why
stopped_before s t Memory on h = tt
stopped_before s t NoThread on h = tt
stopped_before s t (Full u) on h = (goes_on_both s t u on h.0, h.1)

-- workers that ended have stopped so
pub ended_so : (s t : Sim) (why : EndCause) (told : Stopped Sim) → GoesOn s t → (why ≡ ended.CounterFull → IsFullAhead t.board.stop t.shares) → TellsEnd why t told → HasStopped s told
ended_so s t ended.Memory told on full tells = subst (HasStopped s) (sym tells) tt
ended_so s t ended.CounterFull told on full tells = subst (HasStopped s) (sym tells) (on, full refl)
ended_so s t ended.NoThread told on full tells = subst (HasStopped s) (sym tells) tt
ended_so s t ended.StopLower told on full tells = absurd tells

-- the workers of a run that goes on are those that it began with
pub by_later : (case : Case) (asked : AnAsked) (n : ℕ) (s t : Sim) → IsBy case asked n s → GoesOn s t → IsBy case asked n t
by_later case asked n s t by on = record { of_case = on.case ∙ by.of_case; workers = on.workers ∙ by.workers; cancels = on.cancels ∙ by.cancels }

-- so is what stops them
pub stopped_by : (case : Case) (asked : AnAsked) (n : ℕ) (s : Sim) (why : Stopped Sim) → IsBy case asked n s → HasStopped s why → HasStoppedBy case asked n why
stopped_by case asked n s Memory by h = tt
stopped_by case asked n s NoThread by h = tt
stopped_by case asked n s (Full t) by h = record { by = by_later case asked n s t by h.0; full = h.1 }

-- their routers stay dealt out
pub dealt_later : (asked : AnAsked) (k : ℕ) (s : Sim) (result : Result Sim (Stopped Sim)) → AreDealtAs asked k s → IfOk result (λ t. GoesOn s t) → IfOk result (λ t. HasSameOwners s t) → IfOk result (λ t. AreDealtAs asked k t)
dealt_later asked k s (Ok t) dealt on same = still_dealt asked k s t dealt on same
dealt_later asked k s (Err why) dealt on same = tt

-- so these workers ran the case
pub run_by_left : (case : Case) (asked : AnAsked) (n : ℕ) (s : Sim) (by : By) → IsLeftBy s by → HasCome case asked n s → IsRunBy case asked n by
run_by_left case asked n s by.OneThread left come = absurd left
run_by_left case asked n s (by.Workers t) left come = subst (HasCome case asked n) (sym left) come
run_by_left case asked n s (by.OneThreadAfter t) left come = absurd left

-- or those that were chosen
pub any_left : (case : Case) (asked : AnAsked) (s : Sim) (by : By) → IsLeftBy s by → HaveComeAsChosen case asked s → IsRunByAny case asked by
any_left case asked s by.OneThread left come = absurd left
any_left case asked s (by.Workers t) left come = subst (HaveComeAsChosen case asked) (sym left) come
any_left case asked s (by.OneThreadAfter t) left come = absurd left

-- what stops one thread stops a run
pub alone_stops : (case : Case) (asked : AnAsked) (fault : OrMemory AFullCounter) → (fault ≡ or_memory.Fault counter_full → GetsStuck case asked.report.stop) → MayStop case asked (stopped_alone fault)
alone_stops case asked (or_memory.Fault full) stuck = stuck refl
alone_stops case asked or_memory.Memory stuck = tt

-- ---- workers that are chosen

-- they have come to a later time
pub come_later : (time : ℕ) (case : Case) (asked : AnAsked) (s t : Sim) → HasComeTo s.board.stop case asked s → GoesOn s t → IsSettled t → t.board.stop ≡ time → AreDealtAs asked 0 t
    → HasComeTo time case asked t
come_later time case asked s t come on settled stop dealt =
    let many = on.workers in
    record {
      some = (let some = come.some in omega (arith, some, many));
      few = (let few = come.few in omega (arith, few, many));
      by = (let by = by_later case asked (workers s.board) s t come.by on in record { of_case = by.of_case; workers = refl; cancels = by.cancels ∙ (λ i. replicate (sym many i) asked.cancel) });
      settled = settled;
      stop = stop;
      dealt = dealt;
    }

-- and to the stop
pub come_to_stop : (time : ℕ) (case : Case) (asked : AnAsked) (s : Sim) → time ≤ asked.report.stop → asked.report.stop ≤ time → asked.report.log ≡ false → HasComeTo time case asked s → HaveComeAsChosen case asked s
come_to_stop time case asked s early late log come = (
  come.few,
  record {
    by = come.by;
    settled = come.settled;
    stop = come.stop ∙ (let same : time ≡ asked.report.stop = omega (arith, early, late) in same);
    dealt = (0, come.dealt);
    retains = λ logged. absurd (true≢false (sym logged ∙ log));
  },
)

-- as they begin
pub come_begun : (case : Case) (asked : AnAsked) (s : Sim) (n time : ℕ) (list : List ℕ) → 0 < n → n ≤ MOST_WORKERS_CHOSEN → s.case ≡ case → workers s.board ≡ n → cancels_of s ≡ replicate n asked.cancel → IsSettled s → s.board.stop ≡ time
    → list ≡ owners_after asked n case.net.nodes 0 → ((r : ℕ) → r < s.case.net.nodes → slice_get list r ≡ Some (who s.board r)) → HasComeTo time case asked s
come_begun case asked s n time list some few is many cancels settled stop dealt owners = record {
  some = omega (arith, some, many);
  few = omega (arith, few, many);
  by = record { of_case = is; workers = refl; cancels = cancels ∙ (λ i. replicate (sym many i) asked.cancel) };
  settled = settled;
  stop = stop;
  dealt = dealt_out asked 0 s s list (goes_on_same s) (dealt ∙ (λ i. owners_after asked (sym many i) (sym is i).net.nodes 0)) owners;
}
