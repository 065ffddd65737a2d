use Rattle.std.proofs.Common.{[], ◌∷◌, ◌++◌, length}
use Rattle.tw_model.specs.Rules.{scene_fault}
use Rattle.tw_model.specs.declared.limits.TheConstants.{LATEST_VERSION}
use Rattle.tw_text.specs.declared.draft.Draft.TheVariants.{Scenes}
use Rattle.tw_text.proofs.Adding.{refused}
use Rattle.tw_text.proofs.draft.scenes.add_scene.Goals as goal

pub returns-in-Err : goal.returns-in-Err
returns-in-Err c =
    let case = c.args.case.now in
    let fault = scene_fault case.net (length case.scenes) c.args.scene in
    λ version. refused c.add.result _ _ fault (Scenes version (record case { version = LATEST_VERSION; scenes = case.scenes ++ c.args.scene ∷ [] })) c.in-Err.is c.rule_fault.ensures c.add.ensures.rule
