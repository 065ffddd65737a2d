-- What is due for a command line, and how the program ends (own).
use Rattle.std.specs.Prelude.{ℕ, List, Result, Ok, Err}
use Rattle.tw_commands.specs.declared.cause.Cause.{Cause}
use Rattle.tw_commands.specs.declared.cause.Status.{Status}
use Rattle.tw_commands.specs.declared.cause.Status.TheVariants.{Done, Refused}
use Rattle.tw_commands.specs.Output.{Output}
use Rattle.tw_policy_commands.specs.Safe.{safe_output}
use Rattle.tw_policy_commands.specs.Stable.{stable_output}
use Rattle.tw_policy_options.specs.declared.command_line.CommandLine.{CommandLine}
use Rattle.tw_policy_options.specs.declared.command_line.CommandLine.TheVariants.{Safe, Stable}

-- what is written for this input, and how the program ends
abbrev pub due_output : CommandLine → List ℕ → Output
due_output Safe = safe_output
due_output (Stable splits) = stable_output splits

-- the exit status of a program that ended so
abbrev pub status_number : Result Status Cause → ℕ
status_number (Ok Done) = 0
status_number (Ok Refused) = 1
status_number (Err cause) = 2
