use Rattle.std.proofs.Common.{◌≡◌, ◌∙◌, ap, sym, arith, length, below_more}
use Rattle.tw_instance.specs.Tables.{row}
use Rattle.tw_elimination.proofs.Marking.{row_at}
use Rattle.tw_elimination.proofs.elimination.has_fewer.Goals as goal

pub loop-node-preserved : goal.loop-node-preserved
loop-node-preserved c =
    let k = c.loop-node.node in
    let one = row_at c.args.next.now k c.index-next-node.result c.loop-node-test.true c.index-next-node.is in
    let two = row_at c.args.left.now k c.index-left-node.result (omega arith) c.index-left-node.is in
    let same : length (row c.args.next.now k) ≡ length (row c.args.left.now k)
    = ap length one ∙ (ap length (sym c.as_slice.ensures.value) ∙ (c.if-as_slice.false ∙ (ap length c.as_slice-in-loop-node.ensures.value ∙ ap length (sym two)))) in
    below_more (λ v. length (row c.args.next.now v) ≡ length (row c.args.left.now v)) k c.loop-node.invariant same
