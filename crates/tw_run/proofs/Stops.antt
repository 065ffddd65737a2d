-- What a program leaves whose run did not come to its stop.
use Rattle.std.proofs.Common.{◌≡◌, ℕ, Bool, false, List, Option, Ok, Err, Result, refl, sym, subst, inl, inr}
use Rattle.std.proofs.KnownBytes.{Keeps-refl}
use Rattle.std.specs.Prelude.{IsOk, ◌⊎◌}
use Rattle.tw_commands.specs.declared.cause.Cause.{Cause}
use Rattle.tw_commands.specs.declared.cause.Status.{Status}
use Rattle.tw_commands.specs.ForCase.{StuckFor, for_case}
use Rattle.tw_commands.specs.Output.{Leaves, Output}
use Rattle.tw_handlers.specs.declared.fault.CounterFull.{CounterFull as AFullCounter}
use Rattle.tw_model.specs.Case.{Case}
use Rattle.tw_options.specs.declared.command_line.Asked.{Asked as AnAsked}
use Rattle.tw_run.specs.Ran.{MayStop}
use Rattle.tw_run.specs.Stopped.{cause_of}
use Rattle.tw_run.specs.Threaded.{LacksThread, LeavesThreaded, LeavesThreadedFor}
use Rattle.tw_run.specs.declared.cause.Stopped.{Stopped}
use Rattle.tw_run.specs.declared.cause.Stopped.TheVariants.{Memory, NoThread, Full}
use Rattle.tw_seq.specs.Run.{GetsStuck}
use Rattle.tw_lines.specs.declared.text_fault.TextFault.{TextFault}
use Rattle.tw_text.specs.Reading.{case_of}

pub leaves_told : (why : Stopped AFullCounter) (case : Case) (asked : AnAsked) (output : Output) (old : Option (List ℕ)) (failed : Bool) → failed ≡ false
    → MayStop case asked why → LeavesThreaded (Err (cause_of why)) output (GetsStuck case asked.report.stop) old old failed
leaves_told Memory case asked output old failed still may = inl (record { nothing = Keeps-refl old; still = still })
leaves_told NoThread case asked output old failed still may = inr (record { no_thread = refl; sink = record { nothing = Keeps-refl old; still = still } })
leaves_told (Full full) case asked output old failed still may = inl (may, record { nothing = Keeps-refl old; still = still })

-- of a text that is a case
pub leaves_for : (text : List ℕ) (case : Case) → case_of text ≡ Ok case → (result : Result Status Cause) (report : Case → Output) (stop : ℕ) (old new : Option (List ℕ)) (failed : Bool)
    → LeavesThreaded result (report case) (GetsStuck case stop) old new failed
    → LeavesThreadedFor text result (for_case report (case_of text)) (StuckFor (λ c. GetsStuck c stop) (case_of text)) old new failed
leaves_for text case is result report stop old new failed leaves =
    let P : Result Case TextFault → Type 0
    = λ found. Leaves result (for_case report found) (StuckFor (λ c. GetsStuck c stop) found) old new failed ⊎ (IsOk found × LacksThread result old new failed) in
    subst P (sym is) (elim leaves [ inl told ↦ inl told | inr lacks ↦ inr (refl, lacks) ])
