use Rattle.std.proofs.lemmas.Result.{err_from_is_err_and}
use Rattle.tw_text.proofs.Adding.{nodes_refused, path_taken}
use Rattle.tw_text.proofs.draft.add_path_of.Goals as goal

pub returns-in_err-nodes : goal.returns-in_err-nodes
returns-in_err-nodes c =
    let p = err_from_is_err_and c.from_residual-in_err-nodes.result c.from_residual-in_err-nodes.ensures.1 in
    λ version. rw (p.1, p.2) (nodes_refused version c.args.instance.now c.args.owner _ c.args.nodes.now c.in_err-nodes.field-0.0 c.in_ok-owner.ensures c.in_err-nodes.ensures)

pub returns : goal.returns
returns c =
    λ version. path_taken version c.args.instance.now c.args.owner _ c.args.nodes.now _ _ c.in_ok-owner.ensures c.in_ok-nodes.ensures (c.add_path.ensures version)
