use Rattle.std.proofs.Common.{◌≡◌, Err, ap, sym, ◌∙◌}
use Rattle.std.proofs.lemmas.Result.{err_from_is_err_and}
use Rattle.tw_process.specs.declared.refused.Refused.{Refused}
use Rattle.tw_process.specs.declared.refused.Refused.TheVariants.{CounterFull}
use Rattle.tw_rounds.proofs.dealing.tell_all.Goals as goal

pub tell_at-requires-clause-ruled : goal.tell_at-requires-clause-ruled
tell_at-requires-clause-ruled g c =
    let r = c.requires.ruled in
    (r.0, r.1, r.2, r.3, r.4, c.loop-number.invariant r.0 r.1 r.2 r.4 r.5)

pub returns-in_err-tell_at-clause-ruled : goal.returns-in_err-tell_at-clause-ruled
returns-in_err-tell_at-clause-ruled g c = λ model stop flight lt ruled.
    c.tell_at.ensures.ruled model stop flight lt (c.loop-number.invariant model stop flight lt ruled)

pub returns-in_err-tell_at-clause-full : goal.returns-in_err-tell_at-clause-full
returns-in_err-tell_at-clause-full g c = λ model stop flight lt ruled told.
    let p = err_from_is_err_and c.from_residual.result c.from_residual.ensures.1 in
    let is_full : ◌≡◌ {A = Refused} p.0 CounterFull = cc (p.1, told) in
    c.in_err-tell_at.ensures.full model stop flight lt (c.loop-number.invariant model stop flight lt ruled) (ap (λ x. Err x) (sym p.2 ∙ is_full))

pub loop-number-preserved : goal.loop-number-preserved
loop-number-preserved g c = λ model stop flight lt ruled.
    c.tell_at.ensures.ruled model stop flight lt (c.loop-number.invariant model stop flight lt ruled)
