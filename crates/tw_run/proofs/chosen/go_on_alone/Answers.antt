use Rattle.std.proofs.Common.{◌≡◌, ap, subst, sym, ◌∙◌, Err}
use Rattle.std.proofs.lemmas.Result.{err_from_is_err_and}
use Rattle.tw_handlers.specs.Calls.{counter_full}
use Rattle.tw_model.specs.declared.memory.OrMemory.TheVariants.{Fault}
use Rattle.tw_seq.specs.Run.{GetsStuck, Run}
use Rattle.tw_run.proofs.chosen.go_on_alone.Goals as goal

pub returns-in_err-now-clause-full : goal.returns-in_err-now-clause-full
returns-in_err-now-clause-full g c =
    λ is.
    let p = err_from_is_err_and c.from_residual.result c.from_residual.ensures.1 in
    let same : c.in_err-now.field-0.0 ≡ Fault counter_full = (let h = sym (p.1 ∙ ap Err p.2) ∙ is in cc) in
    c.in_err-now.ensures.full c.args.stop c.next_end.ensures.within (ap Err same)

pub returns-in_err-now-2-clause-full : goal.returns-in_err-now-2-clause-full
returns-in_err-now-2-clause-full g c =
    λ is.
    let p = err_from_is_err_and c.from_residual-in_err-now-2.result c.from_residual-in_err-now-2.ensures.1 in
    let same : c.in_err-now-2.field-0.0 ≡ Fault counter_full = (let h = sym (p.1 ∙ ap Err p.2) ∙ is in cc) in
    subst (λ case. GetsStuck case c.args.stop) (ap (λ (r : Run). r.case) c.loop-now.invariant.run ∙ ap (λ (r : Run). r.case) c.in_ok-now.ensures.run)
    (c.in_err-now-2.ensures.full c.args.stop c.next_end-in-loop-now.ensures.within (ap Err same))
