use Rattle.std.proofs.Common.{[], ◌∷◌, codes}
use Rattle.std.specs.List.{flat_map}
use Rattle.tw_device.proofs.Puts.{puts_failed, puts_then}
use Rattle.tw_report.specs.Words.{line}
use Rattle.tw_policy_commands.specs.Safe.{texts}
use Rattle.tw_policy_commands.proofs.safe.put_wheel.Goals as goal

pub returns-in_err-put_lines : goal.returns-in_err-put_lines
returns-in_err-put_lines g c =
    puts_failed c.from_residual.result _ _ _ (flat_map line (texts c.args.wheel.now)) _ c.from_residual.ensures.0 c.in_err-put_lines.ensures

pub returns : goal.returns
returns g c =
    puts_then c.put_line.result _ _ _ _ (flat_map line (texts c.args.wheel.now)) (line (codes "verdict" ∷ codes "wheel" ∷ []))
    c.in_ok-put_lines.ensures.0 c.put_line.ensures
