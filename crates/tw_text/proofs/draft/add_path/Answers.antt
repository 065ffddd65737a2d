use Rattle.std.proofs.Common.{[], ◌∷◌, ◌++◌}
use Rattle.tw_model.specs.Net.{Net}
use Rattle.tw_model.specs.Rules.{path_fault}
use Rattle.tw_text.specs.declared.draft.Draft.TheVariants.{Paths}
use Rattle.tw_text.proofs.Adding.{refused}
use Rattle.tw_text.proofs.draft.add_path.Goals as goal

pub returns-in-Err : goal.returns-in-Err
returns-in-Err c =
    let net : Net = c.args.instance.now in
    let path = c.args.path in
    λ version. refused c.add_path.result _ _ (path_fault net path) (Paths version (record net { permitted = net.permitted ++ path ∷ [] })) c.in-Err.is c.rule_fault.ensures c.add_path.ensures.rule
