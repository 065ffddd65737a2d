use Rattle.std.proofs.Common.{[], ◌∷◌, codes}
use Rattle.std.specs.Fmt.{decimal}
use Rattle.tw_device.proofs.Puts.{puts_failed, puts_then}
use Rattle.tw_report.specs.Words.{line}
use Rattle.tw_policy_commands.specs.Safe.{safe_word}
use Rattle.tw_policy_commands.proofs.safe.put_safe.Goals as goal

pub returns-in_err-put_line : goal.returns-in_err-put_line
returns-in_err-put_line g c =
    puts_failed c.from_residual.result _ _ _ (line (codes "rests" ∷ codes "before" ∷ decimal c.args.time ∷ [])) _ c.from_residual.ensures.0 c.in_err-put_line.ensures

pub returns : goal.returns
returns g c =
    puts_then c.put_line-2.result _ _ _ _ (line (codes "rests" ∷ codes "before" ∷ decimal c.args.time ∷ [])) (line (codes "verdict" ∷ safe_word c.args.robust ∷ []))
    c.in_ok-put_line.ensures.0 (rw c.safe_name.ensures at c.put_line-2.ensures)
