use Rattle.std.proofs.Common.{ap, refl, subst, Err}
use Rattle.std.specs.Io.KnownBytes.{Appends}
use Rattle.std.proofs.lemmas.Result.{err_from_is_err_and}
use Rattle.tw_device.specs.Sink.{Begins}
use Rattle.tw_model.specs.Summary.{summary_of}
use Rattle.tw_commands.proofs.Shown.{shown_paths, shown_report}
use Rattle.tw_commands.proofs.Stuck.{leaves_fault}
use Rattle.tw_commands.proofs.seq.SeqCommand.answer.Goals as goal

pub returns-in_err-outcome : goal.returns-in_err-outcome
returns-in_err-outcome g c =
    let p = err_from_is_err_and c.from_residual.result c.from_residual.ensures.1 in
    rw (p.1, p.2) (leaves_fault c.in_err-outcome.field-0.0 _ _ _ _ c.requires.open (λ is. c.in_err-outcome.ensures.full (ap Err is)))

pub write_report-requires-clause-paths : goal.write_report-requires-clause-paths
write_report-requires-clause-paths g c =
    rw (c.instance.ensures.value, c.in_ok-outcome.ensures.outcome) (shown_paths c.args.case.now c.instance.ensures.case c.args.self.now.report.stop c.args.self.now.report.log)

pub returns-in_err-write_report : goal.returns-in_err-write_report
returns-in_err-write_report g c =
    let r = c.from_residual-in_err-write_report in
    let p = err_from_is_err_and r.result r.ensures.1 in
    let told = c.in_err-write_report.ensures in
    let text = shown_report c.args.case.now c.instance.result.now c.args.self.now.report (summary_of c.in_ok-outcome.outcome) c.in_ok-outcome.found
    c.of-verdict.result c.instance.ensures.value c.in_ok-outcome.ensures.outcome c.in_ok-outcome.ensures.found c.of-verdict.ensures in
    rw (p.1, p.2) (record { prefix = subst (Begins _ _) text told.0; closed = told.1 })

pub returns : goal.returns
returns g c =
    let told = c.in_ok-write_report.ensures in
    let text = shown_report c.args.case.now c.instance.result.now c.args.self.now.report (summary_of c.in_ok-outcome.outcome) c.in_ok-outcome.found
    c.of-verdict.result c.instance.ensures.value c.in_ok-outcome.ensures.outcome c.in_ok-outcome.ensures.found c.of-verdict.ensures in
    record { as_told = refl; whole = subst (Appends _ _) text told.0; still = told.1 }
