use Rattle.std.proofs.Common.{[], Err, refl, ap, sym, ◌∙◌}
use Rattle.std.proofs.lemmas.Result.{err_from_is_err_and}
use Rattle.tw_model.specs.Case.{Case}
use Rattle.tw_model.specs.Rules.{case_fault}
use Rattle.tw_instance.specs.Build.{judged_scenes}
use Rattle.tw_instance.specs.declared.refusal.Item.TheVariants.{Whole}
use Rattle.tw_instance.proofs.Told.{refused_by, refused_early, told_later}
use Rattle.tw_instance.proofs.case.Case.fill.Goals as goal

pub returns-in_err-add_all-clause-told : goal.returns-in_err-add_all-clause-told
returns-in_err-add_all-clause-told c =
    let p = err_from_is_err_and c.from_residual.result c.from_residual.ensures.1 in
    let at = c.in_err-add_all.field-0.0 in
    rw (p.1, p.2) (refused_early (judged_scenes c.args.self.now.net 0 c.args.scenes.now) _ at c.in_err-add_all.ensures.told)

pub returns-in-Err-clause-told : goal.returns-in-Err-clause-told
returns-in-Err-clause-told c =
    let version = c.args.version in
    let net = c.args.self.now.net in
    let scenes = c.args.scenes.now in
    let seen = ap (λ (k : Case). case_fault version k.net k.scenes) (sym c.in_ok-add_all.ensures.ok) in
    let broken = seen ∙ (c.in-Err.ensures.rule c.in-Err.rule).0 refl in
    let here = refused_by (case_fault version net scenes) c.in-Err.rule Whole [] broken in
    told_later {T = Unit {0}} (Err _) (judged_scenes net 0 scenes) _ c.in_ok-add_all.ensures.told here
