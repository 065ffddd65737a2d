use Rattle.std.proofs.Common.{◌+◌, [], ◌∷◌, ◌++◌, get_or, ap, refl, sym, ◌∙◌, arith}
use Rattle.std.proofs.lemmas.List.{at_drop_all, at_drop_more, take_more}
use Rattle.tw_model.specs.declared.case.Scene.{Scene as AScene}
use Rattle.tw_model.specs.declared.case.Scene.TheVariants.{Fail}
use Rattle.tw_model.specs.Case.{Case}
use Rattle.tw_model.specs.Rules.{scene_fault}
use Rattle.tw_instance.specs.Build.{judged_scenes}
use Rattle.tw_instance.specs.declared.refusal.Item.TheVariants.{Scene}
use Rattle.tw_instance.proofs.Scenes.{judged_alike, latest_case}
use Rattle.tw_instance.proofs.Told.{covers_after, covers_end, covers_here}
use Rattle.tw_instance.proofs.case.Case.add_all.Goals as goal

abbrev none : AScene
none = Fail 0 0 0

pub returns-in-Err-clause-told : goal.returns-in-Err-clause-told
returns-in-Err-clause-told c =
    let i = c.loop-i.i in
    let scenes = c.args.scenes.now in
    let net = c.args.self.now.net in
    let s = get_or scenes i none in
    let next = at_drop_more (judged_scenes net i) scenes i none c.loop-i-test.true in
    let same = judged_alike c.loop-i.self net scenes i s (omega arith) c.loop-i.invariant.taken in
    covers_here _ _ _ (scene_fault net i s) (Scene (i + 1)) c.in-Err.fault _ refl c.loop-i.invariant.covers next (λ r. rw same at (c.in-Err.ensures.rule r)) refl

pub returns-clause-told : goal.returns-clause-told
returns-clause-told c =
    covers_end _ _ c.loop-i.invariant.covers (at_drop_all (judged_scenes c.args.self.now.net c.loop-i.i) c.args.scenes.now c.loop-i.i c.loop-i-test.false)

pub loop-i-preserved : goal.loop-i-preserved
loop-i-preserved c =
    let i = c.loop-i.i in
    let scenes = c.args.scenes.now in
    let net = c.args.self.now.net in
    let s = get_or scenes i none in
    let next = at_drop_more (judged_scenes net i) scenes i none c.loop-i-test.true in
    let same = judged_alike c.loop-i.self net scenes i s (omega arith) c.loop-i.invariant.taken in
    let grown = ap (latest_case net) (sym (take_more scenes i none c.loop-i-test.true)) in
    record {
      taken = c.in_default.ensures.ok ∙ (ap (λ (k : Case). latest_case k.net (k.scenes ++ s ∷ [])) c.loop-i.invariant.taken ∙ grown);
      covers = covers_after _ _ _ (scene_fault net i s) (Scene (i + 1)) c.loop-i.invariant.covers next (sym same ∙ c.in_default.ensures.kept);
    }
