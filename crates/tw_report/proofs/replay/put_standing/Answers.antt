use Rattle.std.proofs.Common.{[], ◌∷◌, codes}
use Rattle.std.specs.Fmt.{decimal}
use Rattle.tw_device.proofs.Puts.{puts_failed, puts_then}
use Rattle.tw_report.specs.ReplayText.{counts_words, standing_lines}
use Rattle.tw_report.specs.Words.{line}
use Rattle.tw_report.proofs.replay.put_standing.Goals as goal

pub returns-in_err-put_line : goal.returns-in_err-put_line
unfolding standing_lines
returns-in_err-put_line g c = puts_failed c.from_residual.result _ _ _ (line (codes "bound" ∷ decimal c.args.bound ∷ [])) _ c.from_residual.ensures.0 c.in_err-put_line.ensures

pub returns : goal.returns
unfolding standing_lines
returns g c =
    puts_then c.put_counts.result _ _ _ _ (line (codes "bound" ∷ decimal c.args.bound ∷ [])) (line (counts_words c.args.counts.now)) c.in_ok-put_line.ensures.0 c.put_counts.ensures
