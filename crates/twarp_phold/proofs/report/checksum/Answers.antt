use Rattle.std.proofs.Common.{ap, sym, ◌∙◌}
use Rattle.tw_phold.specs.Phold.{mixed_in}
use Rattle.twarp_phold.specs.Report.{knows}
use Rattle.twarp_phold.proofs.Pages.{checksum_next}
use Rattle.twarp_phold.proofs.report.checksum.Goals as goal

pub loop-number-preserved : goal.loop-number-preserved
loop-number-preserved g c =
    let m = g.E.Ended.phold c.args.run.now in
    let stop = g.E.Ended.end c.args.run.now in
    let r = c.loop-number.number in
    c.mix_into-sum.ensures
    ∙ (ap (mixed_in c.loop-number.sum) c.state.ensures ∙ (ap (λ sum. mixed_in sum (knows m stop r)) c.loop-number.invariant ∙ sym (checksum_next m stop r)))
