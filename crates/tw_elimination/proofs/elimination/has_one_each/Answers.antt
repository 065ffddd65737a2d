use Rattle.std.proofs.Common.{◌∙◌, ap, sym, arith, length}
use Rattle.tw_elimination.proofs.Bounds.{one_last, one_more, one_other}
use Rattle.tw_elimination.proofs.elimination.has_one_each.Goals as goal

pub returns-then-as_slice-ne1 : goal.returns-then-as_slice-ne1
returns-then-as_slice-ne1 c =
    one_other c.args.left.now c.loop-paths.paths-index c.paths-item.result c.loop-paths-test.true c.paths-item.is
    (λ e. c.if-as_slice-ne1.true (ap length c.as_slice.ensures.value ∙ e)) c.loop-paths.invariant

pub loop-paths-preserved : goal.loop-paths-preserved
loop-paths-preserved c =
    one_more c.args.left.now c.loop-paths.paths-index c.paths-item.result c.loop-paths-test.true c.paths-item.is
    (ap length (sym c.as_slice.ensures.value) ∙ c.if-as_slice-ne1.false) c.loop-paths.invariant

pub returns : goal.returns
returns c = one_last c.args.left.now c.loop-paths.paths-index (omega arith) c.loop-paths.invariant
