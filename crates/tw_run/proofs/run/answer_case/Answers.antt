use Rattle.std.proofs.Common.{inl, refl, subst}
use Rattle.std.specs.Io.KnownBytes.{Appends}
use Rattle.std.proofs.lemmas.Result.{err_from_is_err_and}
use Rattle.tw_device.specs.Sink.{Begins}
use Rattle.tw_model.specs.Summary.{summary_of}
use Rattle.tw_commands.proofs.Shown.{shown_paths, shown_report}
use Rattle.tw_run.proofs.Stops.{leaves_told}
use Rattle.tw_run.proofs.run.answer_case.Goals as goal

pub returns-in_err-ran : goal.returns-in_err-ran
returns-in_err-ran g c =
    let p = err_from_is_err_and c.from_residual.result c.from_residual.ensures.1 in
    rw (p.1, p.2) (leaves_told c.in_err-ran.field-0.0 c.args.case.now c.args.asked _ _ _ c.requires.open c.in_err-ran.ensures.stopped)

pub write_report-requires-clause-paths : goal.write_report-requires-clause-paths
write_report-requires-clause-paths g c =
    rw (c.instance.ensures.value, c.in_ok-ran.ensures.ran.outcome) (shown_paths c.args.case.now c.instance.ensures.case c.args.asked.report.stop c.args.asked.report.log)

pub returns-in_err-write_report : goal.returns-in_err-write_report
returns-in_err-write_report g c =
    let r = c.from_residual-in_err-write_report in
    let p = err_from_is_err_and r.result r.ensures.1 in
    let told = c.in_err-write_report.ensures in
    let ran = c.in_ok-ran in
    let text = shown_report c.args.case.now c.instance.result.now c.args.asked.report (summary_of ran.ran.outcome) ran.ran.found
    c.of-verdict.result c.instance.ensures.value ran.ensures.ran.outcome ran.ensures.ran.found c.of-verdict.ensures in
    rw (p.1, p.2) (inl (record { prefix = subst (Begins _ _) text told.0; closed = told.1 }))

pub returns : goal.returns
returns g c =
    let told = c.in_ok-write_report.ensures in
    let ran = c.in_ok-ran in
    let text = shown_report c.args.case.now c.instance.result.now c.args.asked.report (summary_of ran.ran.outcome) ran.ran.found
    c.of-verdict.result c.instance.ensures.value ran.ensures.ran.outcome ran.ensures.ran.found c.of-verdict.ensures in
    inl (record { as_told = refl; whole = subst (Appends _ _) text told.0; still = told.1 })
