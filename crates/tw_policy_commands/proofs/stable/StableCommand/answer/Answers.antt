use Rattle.std.proofs.Common.{◌∙◌, ap, refl, subst, sym}
use Rattle.std.specs.Io.KnownBytes.{Appends}
use Rattle.std.specs.List.{All}
use Rattle.std.proofs.lemmas.Result.{err_from_is_err_and}
use Rattle.tw_device.specs.Sink.{Begins}
use Rattle.tw_instance.specs.Tables.{items}
use Rattle.tw_model.specs.Net.{IsPath, Net}
use Rattle.tw_policy_commands.proofs.Assignments.{stable_is}
use Rattle.tw_policy_commands.proofs.stable.StableCommand.answer.Goals as goal

pub put_answer-requires-clause-paths : goal.put_answer-requires-clause-paths
put_answer-requires-clause-paths g c =
    subst (λ (n : Net). All (All (IsPath n)) (items c.deref.result.now)) (sym c.instance.ensures.value)
    (subst (λ rows. All (All (IsPath c.args.case.now.net)) (items rows)) (sym c.deref.ensures.value) c.in_ok-stable.ensures.paths)

pub returns-in_err-put_answer : goal.returns-in_err-put_answer
returns-in_err-put_answer g c =
    let r = c.from_residual-in_err-put_answer in
    let p = err_from_is_err_and r.result r.ensures.1 in
    let told = c.in_err-put_answer.ensures in
    let s = c.in_ok-stable.stable in
    let text = stable_is c.args.case.now c.args.self.now.splits c.instance.result.now c.deref.result.now (items s.ribs.items) s.are_all c.instance.ensures.value (ap items c.deref.ensures.value)
    c.in_ok-stable.ensures.found c.in_ok-stable.ensures.are_all in
    rw (p.1, p.2) (record { prefix = subst (Begins _ _) text told.0; closed = told.1 })

pub returns : goal.returns
returns g c =
    let told = c.in_ok-put_answer.ensures in
    let s = c.in_ok-stable.stable in
    let text = stable_is c.args.case.now c.args.self.now.splits c.instance.result.now c.deref.result.now (items s.ribs.items) s.are_all c.instance.ensures.value (ap items c.deref.ensures.value)
    c.in_ok-stable.ensures.found c.in_ok-stable.ensures.are_all in
    record { as_told = refl; whole = subst (Appends _ _) text told.0; still = told.1 }
