-- What is due for a command line (own).
use Rattle.std.specs.Prelude.{ℕ, ◌≡◌, ◌<◌, ◌≤◌, ◌⊎◌, Bool, false, IfSome, List, Option, Result, Ok, Err}
use Rattle.tw_commands.specs.declared.cause.Cause.{Cause}
use Rattle.tw_commands.specs.declared.cause.Status.{Status}
use Rattle.tw_commands.specs.declared.cause.Status.TheVariants.{Done, Refused}
use Rattle.tw_commands.specs.Check.{check_output}
use Rattle.tw_commands.specs.Output.{Answers, Output}
use Rattle.tw_commands.specs.Replay.{replay_output}
use Rattle.tw_commands.specs.Seq.{GetsStuckFor, seq_output}
use Rattle.tw_commands.specs.Trail.{TrailGetsStuck, trail_output}
use Rattle.tw_commands.specs.Upgrade.{upgrade_output}
use Rattle.tw_model.specs.declared.limits.TheConstants.{LATEST}
use Rattle.tw_options.specs.declared.command_line.CommandLine.{CommandLine}
use Rattle.tw_options.specs.declared.command_line.CommandLine.TheVariants.{Check, Seq, Run, Trail, Replay, Upgrade}
use Rattle.tw_run.specs.Asked.{IsReady}
use Rattle.tw_run.specs.Threaded.{LacksThreadFor}

-- its stop and its checkpoints are within their limits, and there is a worker
abbrev pub IsRunnable : CommandLine → Type 0
IsRunnable Check = Unit {0}
IsRunnable (Seq report) = (report.stop ≤ LATEST) × IfSome report.every (λ n. (0 < n) × (n ≤ LATEST))
IsRunnable (Run asked) = IsReady asked
IsRunnable (Trail trail) = trail.stop ≤ LATEST
IsRunnable (Replay machine) = (machine.stop ≤ LATEST) × (0 < machine.workers)
IsRunnable Upgrade = Unit {0}

-- what is written for this input, and how the program ends
abbrev pub due_output : CommandLine → List ℕ → Output
due_output Check = check_output
due_output (Seq report) = seq_output report
due_output (Run asked) = seq_output asked.report
due_output (Trail trail) = trail_output trail.router trail.stop trail.keep
due_output (Replay machine) = replay_output machine.stop machine.cancel
due_output Upgrade = upgrade_output

-- the exit status of a program that ended so
abbrev pub status_number : Result Status Cause → ℕ
status_number (Ok Done) = 0
status_number (Ok Refused) = 1
status_number (Err cause) = 2

-- for this input a router's counter would pass its limit
abbrev pub StopsFull : CommandLine → List ℕ → Type 0
StopsFull Check input = ⊥
StopsFull (Seq report) input = GetsStuckFor report.stop input
StopsFull (Run asked) input = GetsStuckFor asked.report.stop input
StopsFull (Trail trail) input = TrailGetsStuck trail.router trail.stop input
StopsFull (Replay machine) input = ⊥
StopsFull Upgrade input = ⊥

-- it starts threads
abbrev pub StartsThreads : CommandLine → Type 0
StartsThreads Check = ⊥
StartsThreads (Seq report) = ⊥
StartsThreads (Run asked) = Unit {0}
StartsThreads (Trail trail) = ⊥
StartsThreads (Replay machine) = ⊥
StartsThreads Upgrade = ⊥

-- what the program leaves for a command line: what is due, or nothing where it starts threads, its input is a case and one is refused
abbrev pub Performs : CommandLine → Result Status Cause → Option (List ℕ) → Option (List ℕ) → Option (List ℕ) → Bool → Bool → Type 0
Performs line result known old new reader writer =
    Answers result (due_output line) (StopsFull line) known old new reader writer
    ⊎ (StartsThreads line × LacksThreadFor result known old new reader writer)
