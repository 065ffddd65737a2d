use Rattle.std.specs.Fmt.{decimal}
use Rattle.tw_device.proofs.Puts.{puts_joined}
use Rattle.tw_report.proofs.Joins.{spaced_first}
use Rattle.tw_report.proofs.words.put_nodes.Goals as goal

pub returns : goal.returns
returns g c =
    let first = rw c.from.ensures at c.in_ok-put_number.ensures.0 in
    puts_joined c.put_more_nodes.result _ _ _ _ _ _ _ first c.put_more_nodes.ensures (spaced_first decimal c.args.nodes.now 0 c.in-len1-up.len_at_least)
