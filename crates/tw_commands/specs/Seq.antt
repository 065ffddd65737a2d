-- What `seq` writes (own).
use Rattle.std.specs.Prelude.{ℕ, ◌/◌, Bool, List, [], Option, Some, None, if◌then◌else◌}
use Rattle.tw_commands.specs.declared.cause.Status.TheVariants.{Done}
use Rattle.tw_commands.specs.ForCase.{StuckFor, for_case}
use Rattle.tw_commands.specs.Output.{Output}
use Rattle.tw_model.specs.Case.{Case}
use Rattle.tw_model.specs.Summary.{Summary}
use Rattle.tw_options.specs.declared.command_line.Report.{Report as AReport}
use Rattle.tw_report.specs.Report.{report_text}
use Rattle.tw_seq.specs.Outcome.{outcome_of}
use Rattle.tw_seq.specs.Run.{GetsStuck, complete_run}
use Rattle.tw_shape.specs.declared.verdict.Finding.{Finding}
use Rattle.tw_shape.specs.Verdict.{finding, verdict_of}
use Rattle.tw_text.specs.Reading.{case_of}

-- what is found at the checkpoints of a run to the stop: the multiples of every, where there is one
abbrev pub found_to : Case → ℕ → Option ℕ → Option Finding
found_to case stop None = None
found_to case stop (Some every) = finding case every (stop / every)

-- what a report shows of a run: its events only where they are asked for
abbrev pub shown : Bool → Summary → Summary
shown log o = if log then o else record o { events = [] }

-- the report of a run, with the verdict on it
abbrev pub report_of : Case → Bool → Summary → Option Finding → Output
report_of case log o found = record { status = Done; text = report_text case.net o (verdict_of o found) log }

-- the report of the sequential run of the case, as it was asked for: by its stop, its checkpoints and its log alone
abbrev pub seq_report : AReport → Case → Output
seq_report asked case = report_of case asked.log (outcome_of (complete_run case asked.stop)) (found_to case asked.stop asked.every)

-- the report of the run of the case of a text, or why it has none
abbrev pub seq_output : AReport → List ℕ → Output
seq_output asked input = for_case (seq_report asked) (case_of input)

-- the run of the case of a text gets stuck
abbrev pub GetsStuckFor : ℕ → List ℕ → Type 0
GetsStuckFor stop input = StuckFor (λ case. GetsStuck case stop) (case_of input)
