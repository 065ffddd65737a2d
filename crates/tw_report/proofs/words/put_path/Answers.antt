use Rattle.std.proofs.Common.{[], ◌∷◌, ◌++◌, map}
use Rattle.std.specs.Fmt.{decimal}
use Rattle.tw_device.proofs.Puts.{puts_failed, puts_then}
use Rattle.tw_report.specs.Words.{with_spaces}
use Rattle.tw_report.proofs.words.put_path.Goals as goal

pub returns-in_err-put_all : goal.returns-in_err-put_all
returns-in_err-put_all g c = puts_failed c.from_residual.result _ _ _ (40 ∷ []) _ c.from_residual.ensures.0 c.in_err-put_all.ensures

pub returns-in_err-put_nodes : goal.returns-in_err-put_nodes
returns-in_err-put_nodes g c =
    let numbers = with_spaces (map decimal c.args.nodes.now) in
    let r = c.from_residual-in_err-put_nodes in
    puts_then r.result _ _ _ _ (40 ∷ []) (numbers ++ 41 ∷ []) c.in_ok-put_all.ensures.0
    (puts_failed r.result _ _ _ numbers (41 ∷ []) r.ensures.0 c.in_err-put_nodes.ensures)

pub returns : goal.returns
returns g c =
    let numbers = with_spaces (map decimal c.args.nodes.now) in
    let r = c.put_all-2 in
    puts_then r.result _ _ _ _ (40 ∷ []) (numbers ++ 41 ∷ []) c.in_ok-put_all.ensures.0
    (puts_then r.result _ _ _ _ numbers (41 ∷ []) c.in_ok-put_nodes.ensures.0 r.ensures)
