use Rattle.std.proofs.Common.{Ok, Err, refl, subst}
use Rattle.std.proofs.lemmas.Result.{err_from_is_err_and}
use Rattle.tw_model.specs.Net.{Net}
use Rattle.tw_model.specs.Rules.{nodes_fault}
use Rattle.tw_instance.specs.Build.{IsRefusedAt, NoneBreaks}
use Rattle.tw_instance.specs.declared.refusal.Item.TheVariants.{Nodes}
use Rattle.tw_instance.proofs.Told.{refused_early, refused_here, same_judged, same_links, told_after, told_later}
use Rattle.tw_instance.proofs.instance.Instance.build.Goals as goal

pub returns-in-Err-clause-told : goal.returns-in-Err-clause-told
returns-in-Err-clause-told c = refused_here Net c.in-Err.fault (nodes_fault c.args.nodes) Nodes _ refl c.in-Err.ensures.rule

pub returns-in_err-add_links-clause-told : goal.returns-in_err-add_links-clause-told
returns-in_err-add_links-clause-told c =
    let p = err_from_is_err_and c.from_residual.result c.from_residual.ensures.1 in
    let at = c.in_err-add_links.field-0.0 in
    let links = same_links c.in-Ok.instance c.args.nodes c.deref.result.now c.args.links.items c.in-Ok.ensures.ok c.deref.ensures.value in
    let refused = subst (λ items. IsRefusedAt items at) links c.in_err-add_links.ensures.told in
    rw (p.1, p.2) (told_after {T = Net} (Err at) (nodes_fault c.args.nodes) Nodes _ c.in-Ok.ensures.kept (refused_early _ _ at refused))

pub returns-in_err-add_paths-clause-told : goal.returns-in_err-add_paths-clause-told
returns-in_err-add_paths-clause-told c =
    let p = err_from_is_err_and c.from_residual-in_err-add_paths.result c.from_residual-in_err-add_paths.ensures.1 in
    let at = c.in_err-add_paths.field-0.0 in
    let links = same_links c.in-Ok.instance c.args.nodes c.deref.result.now c.args.links.items c.in-Ok.ensures.ok c.deref.ensures.value in
    let paths = same_judged c.in-Ok.instance c.add_links.new.self c.args.nodes c.deref.result.now c.args.links.items c.args.paths.items
    c.in-Ok.ensures.ok c.deref.ensures.value c.in_ok-add_links.ensures.ok in
    let refused = subst (λ items. IsRefusedAt items at) paths c.in_err-add_paths.ensures.told in
    rw (p.1, p.2) (told_after {T = Net} (Err at) (nodes_fault c.args.nodes) Nodes _ c.in-Ok.ensures.kept
    (told_later {T = Net} (Err at) _ _ (subst NoneBreaks links c.in_ok-add_links.ensures.told) refused))

pub returns-clause-told : goal.returns-clause-told
returns-clause-told c =
    let links = same_links c.in-Ok.instance c.args.nodes c.deref.result.now c.args.links.items c.in-Ok.ensures.ok c.deref.ensures.value in
    let paths = same_judged c.in-Ok.instance c.add_links.new.self c.args.nodes c.deref.result.now c.args.links.items c.args.paths.items
    c.in-Ok.ensures.ok c.deref.ensures.value c.in_ok-add_links.ensures.ok in
    told_after {T = Net} (Ok c.add_paths.new.self) (nodes_fault c.args.nodes) Nodes _ c.in-Ok.ensures.kept
    (told_later {T = Net} (Ok c.add_paths.new.self) _ _ (subst NoneBreaks links c.in_ok-add_links.ensures.told) (subst NoneBreaks paths c.in_ok-add_paths.ensures.told))
