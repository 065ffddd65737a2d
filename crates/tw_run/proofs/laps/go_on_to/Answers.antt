use Rattle.std.proofs.Common.{◌≡◌, ◌≤◌, ap, sym, ◌∙◌, arith, Err}
use Rattle.std.proofs.lemmas.Result.{err_from_is_err_and}
use Rattle.tw_handlers.specs.Calls.{counter_full}
use Rattle.tw_model.specs.declared.memory.OrMemory.TheVariants.{Fault}
use Rattle.tw_seq.proofs.Checkpoints.{stuck_later}
use Rattle.tw_run.proofs.laps.go_on_to.Goals as goal

pub returns-in_err-run_to-clause-full : goal.returns-in_err-run_to-clause-full
returns-in_err-run_to-clause-full g c =
    λ stop later is.
    let p = err_from_is_err_and c.from_residual.result c.from_residual.ensures.1 in
    let same : c.in_err-run_to.field-0.0 ≡ Fault counter_full = (let h = sym (p.1 ∙ ap Err p.2) ∙ is in cc) in
    let told = c.in_err-run_to.ensures in
    let early : c.run_to.new.self.run.stop ≤ stop = (let s = told.stop in let b = c.requires.begun in omega (arith, s, b, later)) in
    stuck_later c.args.run.now.run.case stop c.run_to.new.self.run told.case early told.begun (told.full (ap Err same))
