use Rattle.std.proofs.Common.{◌≡◌, ◌≤◌, ap, sym, ◌∙◌, arith, Err}
use Rattle.std.proofs.lemmas.Result.{err_from_is_err_and}
use Rattle.tw_handlers.specs.Calls.{counter_full}
use Rattle.tw_model.specs.declared.memory.OrMemory.TheVariants.{Fault}
use Rattle.tw_seq.proofs.Checkpoints.{stuck_later}
use Rattle.tw_run.proofs.chosen.run_to_stop.Goals as goal

pub returns-in_err-run_to-clause-full : goal.returns-in_err-run_to-clause-full
returns-in_err-run_to-clause-full g c =
    λ is.
    let p = err_from_is_err_and c.from_residual-in_err-run_to.result c.from_residual-in_err-run_to.ensures.1 in
    let same : c.in_err-run_to.field-0.0 ≡ Fault counter_full = (let h = sym (p.1 ∙ ap Err p.2) ∙ is in cc) in
    let told = c.in_err-run_to.ensures in
    let way = c.loop-alone.invariant in
    let early : c.run_to.new.self.run.stop ≤ c.args.asked.report.stop = (let s = told.stop in let b = way.begun in let t = way.ticks in omega (arith, s, b, t)) in
    stuck_later c.args.case.now c.args.asked.report.stop c.run_to.new.self.run (told.case ∙ way.case) early told.begun (told.full (ap Err same))
