use Rattle.tw_commands.specs.Seq.{seq_report}
use Rattle.tw_run.proofs.Stops.{leaves_for}
use Rattle.tw_run.proofs.run.answer_text.Goals as goal

pub returns-in-Ok : goal.returns-in-Ok
returns-in-Ok g c =
    leaves_for c.args.text.now c.in-Ok.case c.in-Ok.ensures.exact _ (seq_report c.args.asked.report) c.args.asked.report.stop _ _ _ c.answer_case.ensures
