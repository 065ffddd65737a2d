use Rattle.std.proofs.Common.{[], ◌∷◌, codes}
use Rattle.tw_device.proofs.Puts.{puts_failed, puts_then}
use Rattle.tw_report.specs.ReplayText.{step_lines, told_lines}
use Rattle.tw_report.specs.Words.{line}
use Rattle.tw_report.proofs.replay.put_told.Goals as goal

pub returns-in_err-put_line : goal.returns-in_err-put_line
unfolding told_lines
returns-in_err-put_line g c = puts_failed c.from_residual.result _ _ _ (line (codes "spp-replay" ∷ codes "1" ∷ [])) _ c.from_residual.ensures.0 c.in_err-put_line.ensures

pub returns : goal.returns
unfolding told_lines
returns g c =
    puts_then c.put_steps.result _ _ _ _ (line (codes "spp-replay" ∷ codes "1" ∷ [])) (step_lines 1 c.args.answers.now) c.in_ok-put_line.ensures.0 c.put_steps.ensures
