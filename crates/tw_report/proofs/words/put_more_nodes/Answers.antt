use Rattle.tw_device.proofs.Puts.{each_failed, each_more}
use Rattle.tw_report.specs.Words.{spaced_number}
use Rattle.tw_report.proofs.words.put_more_nodes.Goals as goal

pub returns-in_err-put_next_number : goal.returns-in_err-put_next_number
returns-in_err-put_next_number g c =
    let told = rw c.from.ensures at c.in_err-put_next_number.ensures in
    each_failed spaced_number c.args.nodes.now c.loop-node.node-index 0 _ _ c.from_residual.result _ _ c.loop-node-test.true c.loop-node.invariant.1 c.from_residual.ensures.0 told

pub loop-node-preserved : goal.loop-node-preserved
loop-node-preserved g c =
    let told = rw c.from.ensures at c.in_ok-put_next_number.ensures in
    (told.1, each_more spaced_number c.args.nodes.now c.loop-node.node-index 0 _ _ _ c.loop-node-test.true c.loop-node.invariant.1 told.0)
