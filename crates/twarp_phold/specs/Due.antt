-- What is due for a command line, and how the program ends (own).
use Rattle.std.specs.Prelude.{ℕ, ◌≡◌, ◌<◌, ◌≤◌, Bool, false, true, List, Option, Result, Ok, Err}
use Rattle.std.specs.Io.KnownBytes.{Appends, Keeps}
use Rattle.tw_device.specs.Sink.{Begins}
use Rattle.tw_phold.specs.Phold.{Job, simulation}
use Rattle.tw_phold.specs.declared.phold.Phold.{Phold}
use Rattle.tw_phold_options.specs.declared.command_line.By.{By}
use Rattle.tw_phold_options.specs.declared.command_line.By.TheVariants.{OneThread, Rounds, Workers}
use Rattle.tw_phold_options.specs.declared.command_line.CommandLine.{CommandLine}
use Rattle.tw_rounds.specs.Warp.{IsRight, Warp}
use Rattle.tw_rounds.specs.Warp as warp
use Rattle.tw_sequential.specs.Run.{Continues, IsStuck, Run, opening_run}
use Rattle.twarp_phold.specs.declared.cause.Cause.{Cause}
use Rattle.twarp_phold.specs.declared.cause.Cause.TheVariants.{Memory, CounterFull, Device}
use Rattle.twarp_phold.specs.declared.cause.Status.{Status}
use Rattle.twarp_phold.specs.declared.cause.Status.TheVariants.{Done, Refused}
use Rattle.twarp_phold.specs.Report.{refused_text, report_text}

-- what a command line asks for is PHOLD
abbrev pub AsksForPhold : CommandLine → Type 0
AsksForPhold line = (0 < line.processes) × (0 < line.lookahead) × (line.lookahead ≤ line.longest)

-- the PHOLD that a command line asks for
pub record IsPholdAsked (line : CommandLine) (m : Phold) : Type 0 where
  pub processes : m.processes ≡ line.processes
  pub jobs : m.jobs ≡ line.population
  pub lookahead : m.lookahead ≡ line.lookahead
  pub longest : m.longest ≡ line.longest
  pub remote : m.remote ≡ line.remote
  pub seed : m.seed ≡ line.seed

-- on its way to the stop the sequential run comes to a job that would pass a counter's limit
pub record GetsStuck (m : Phold) (stop : ℕ) : Type 0 where
  pub run : Run Phold Job
  pub to_stop : run.stop ≡ stop
  pub reached : Continues (simulation m) (opening_run (simulation m) m) run
  pub stuck : IsStuck (simulation m) run

-- on its way to the stop a run by workers, which is right before its bound, has a process whose next job is at the bound and would pass
-- a counter's limit
pub record IsHeldUp (m : Phold) (stop : ℕ) : Type 0 where
  pub run : Warp Phold Job
  pub own : run.model ≡ m
  pub to_stop : run.stop ≡ stop
  pub right : IsRight (simulation m) run
  pub stuck : warp.IsStuck (simulation m) run

-- why a run that is made so stops on its way to the stop, where a counter is the cause
abbrev pub StopsShort : By → Phold → ℕ → Type 0
StopsShort OneThread = GetsStuck
StopsShort (Workers n) = IsHeldUp
StopsShort (Rounds n) = IsHeldUp

-- what a program leaves at its sink that is to end so and to write this text; stuck says whether a counter would pass its limit
abbrev pub Leaves : Result Status Cause → Status → List ℕ → Type 0 → Option (List ℕ) → Option (List ℕ) → Bool → Type 0
Leaves (Ok status) due text stuck old new failed = (status ≡ due) × Appends old new text × (failed ≡ false)
Leaves (Err Memory) due text stuck old new failed = Keeps old new × (failed ≡ false)
Leaves (Err CounterFull) due text stuck old new failed = stuck × Keeps old new × (failed ≡ false)
Leaves (Err Device) due text stuck old new failed = Begins old new text × (failed ≡ true)

-- the report of this PHOLD is due, the same whoever runs it
abbrev pub Reports : Result Status Cause → By → Phold → ℕ → Option (List ℕ) → Option (List ℕ) → Bool → Type 0
Reports result by m stop old new failed = Leaves result Done (report_text m stop) (StopsShort by m stop) old new failed

-- the report of the PHOLD that the line asks for is due
pub record IsReported (line : CommandLine) (result : Result Status Cause) (old new : Option (List ℕ)) (failed : Bool) : Type 0 where
  pub phold : Phold
  pub asked : IsPholdAsked line phold
  pub told : Reports result line.by phold line.stop old new failed

-- that the line asks for no PHOLD is due
abbrev pub IsRefused : Result Status Cause → Option (List ℕ) → Option (List ℕ) → Bool → Type 0
IsRefused result old new failed = Leaves result Refused refused_text ⊥ old new failed

-- the exit status of a program that ended so
abbrev pub status_number : Result Status Cause → ℕ
status_number (Ok Done) = 0
status_number (Ok Refused) = 1
status_number (Err cause) = 2
