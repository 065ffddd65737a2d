use Rattle.std.proofs.Common.{◌∷◌, ◌++◌, [], length, refl, ap, sym, ◌∙◌}
use Rattle.tw_model.specs.Case.{Case}
use Rattle.tw_model.specs.Rules.{scene_fault}
use Rattle.tw_instance.proofs.Scenes.{says_rule, with_scene}
use Rattle.tw_instance.proofs.case.Case.add.Goals as goal

pub returns-in-Some-clause-rule : goal.returns-in-Some-clause-rule
returns-in-Some-clause-rule c =
    let scene = c.args.scene in
    let count = c.len-count.ensures ∙ c.self.inside.scenario.ok.0 in
    let seen = ap (λ (k : Case). scene_fault k.net (length k.scenes) scene) (sym c.self.view_is) in
    says_rule (Unit {0}) _ c.in-Some.rule (seen ∙ (ap (λ n. scene_fault c.self.inside.instance n scene) (sym count) ∙ (sym c.scene_fault.ensures ∙ c.in-Some.is)))

pub invariant_of-self-2 : goal.invariant_of-self-2
invariant_of-self-2 c =
    let a = c.self.inside in
    let scene = c.args.scene in
    let count = c.len-count.ensures ∙ a.scenario.ok.0 in
    let fault = sym c.scene_fault.ensures ∙ c.in_default.is in
    let pushed = c.push_reserved.ensures.items ∙ ap (λ ss. ss ++ scene ∷ []) c.in_ok-reserve.ensures.items in
    let more = with_scene a.version a.instance a.scenario.items c.push_reserved.new.self.items a.opening.items c.add.new.events.items c.len-count.result _ scene
    c.self.invariant.case c.self.invariant.opening count fault refl pushed c.in_ok-add.ensures.ok in
    record { case = more.case; opening = more.opening }
