use Rattle.std.proofs.Common.{◌∙◌, ap, refl, subst}
use Rattle.std.specs.Io.KnownBytes.{Appends}
use Rattle.std.proofs.lemmas.Result.{err_from_is_err_and}
use Rattle.tw_device.specs.Sink.{Begins}
use Rattle.tw_policy_commands.specs.Safe.{texts}
use Rattle.tw_policy_commands.proofs.Texts.{answer_is}
use Rattle.tw_policy_commands.proofs.safe.SafeCommand.answer.Goals as goal

pub returns-in_err-put_answer : goal.returns-in_err-put_answer
returns-in_err-put_answer g c =
    let r = c.from_residual-in_err-put_answer in
    let p = err_from_is_err_and r.result r.ensures.1 in
    let told = c.in_err-put_answer.ensures in
    let text = answer_is c.args.case.now c.in_ok-elimination.elimination _ c.in_ok-elimination.ensures (ap texts c.deref.ensures.value ∙ c.in_ok-lines.ensures) in
    rw (p.1, p.2) (record { prefix = subst (Begins _ _) text told.0; closed = told.1 })

pub returns : goal.returns
returns g c =
    let told = c.in_ok-put_answer.ensures in
    let text = answer_is c.args.case.now c.in_ok-elimination.elimination _ c.in_ok-elimination.ensures (ap texts c.deref.ensures.value ∙ c.in_ok-lines.ensures) in
    record { as_told = refl; whole = subst (Appends _ _) text told.0; still = told.1 }
