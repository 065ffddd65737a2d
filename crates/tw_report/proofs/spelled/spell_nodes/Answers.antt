use Rattle.std.specs.Fmt.{decimal}
use Rattle.tw_report.proofs.Joins.{spelled_both, spaced_first}
use Rattle.tw_report.proofs.spelled.spell_nodes.Goals as goal

pub returns-clause-text : goal.returns-clause-text
returns-clause-text c =
    let first = rw c.from.ensures at c.spell-end.ensures.text in
    spelled_both _ _ _ _ _ _ first c.spell_more_nodes.ensures.text (spaced_first decimal c.args.nodes.now 0 c.in-len1-up.len_at_least)
