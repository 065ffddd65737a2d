-- A report shows as much of a run as it is made of.
use Rattle.std.proofs.Common.{◌≡◌, ℕ, Bool, true, false, Option, refl, ◌∙◌}
use Rattle.std.proofs.lemmas.List.Elements.{All-nil}
use Rattle.tw_model.specs.Case.{Case, IsCase}
use Rattle.tw_model.specs.Net.{Net}
use Rattle.tw_model.specs.Summary.{Summary}
use Rattle.tw_options.specs.declared.command_line.Report.{Report as AReport}
use Rattle.tw_report.specs.Lines.{NamesPath}
use Rattle.tw_report.specs.Report.{HasPaths, head_lines, report_text}
use Rattle.tw_seq.specs.Outcome.{outcome_of}
use Rattle.tw_seq.specs.Run.{complete_run}
use Rattle.tw_shape.specs.declared.verdict.Finding.{Finding}
use Rattle.tw_shape.specs.declared.verdict.Verdict.{Verdict}
use Rattle.tw_shape.specs.Verdict.{verdict_of}
use Rattle.tw_commands.specs.Seq.{found_to, seq_report, shown}
use Rattle.tw_commands.proofs.RunPaths.{has_paths}

-- the events are in no line where they are not asked for
shown_text : (net : Net) (log : Bool) (o : Summary) (found : Option Finding) → report_text net (shown log o) (verdict_of (shown log o) found) log ≡ report_text net o (verdict_of o found) log
unfolding report_text head_lines
shown_text net true o found = refl
shown_text net false o found = refl

-- what is shown of a run makes its report
pub shown_report : (case : Case) (net : Net) (asked : AReport) (o : Summary) (found : Option Finding) (verdict : Verdict)
    → net ≡ case.net → o ≡ shown asked.log (outcome_of (complete_run case asked.stop)) → found ≡ found_to case asked.stop asked.every → verdict ≡ verdict_of o found
    → report_text net o verdict asked.log ≡ (seq_report asked case).text
shown_report case net asked o found verdict own told found_is verdict_is =
    (λ i. report_text (own i) o (verdict_is i) asked.log)
    ∙ ((λ i. report_text case.net (told i) (verdict_of (told i) (found_is i)) asked.log)
    ∙ shown_text case.net asked.log (outcome_of (complete_run case asked.stop)) (found_to case asked.stop asked.every))

paths_of : (net : Net) (log : Bool) (o : Summary) → HasPaths net o → HasPaths net (shown log o)
paths_of net true o h = h
paths_of net false o h = record { events = All-nil (λ e. NamesPath net e.body); routers = h.routers }

-- its paths are paths of the net
pub shown_paths : (case : Case) → IsCase case → (stop : ℕ) (log : Bool) → HasPaths case.net (shown log (outcome_of (complete_run case stop)))
shown_paths case is stop log = paths_of case.net log (outcome_of (complete_run case stop)) (has_paths case is stop)
