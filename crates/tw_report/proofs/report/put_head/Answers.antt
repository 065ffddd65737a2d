use Rattle.std.proofs.Common.{[], ◌∷◌, ◌++◌, codes}
use Rattle.std.specs.Fmt.{decimal}
use Rattle.tw_device.proofs.Puts.{puts_failed, puts_then}
use Rattle.tw_report.specs.Report.{head_lines}
use Rattle.tw_report.specs.Words.{line}
use Rattle.tw_report.proofs.report.put_head.Goals as goal

pub returns-in_err-put_line : goal.returns-in_err-put_line
unfolding head_lines
returns-in_err-put_line g c = puts_failed c.from_residual.result _ _ _ (line (codes "spp-report" ∷ codes "1" ∷ [])) _ c.from_residual.ensures.0 c.in_err-put_line.ensures

pub returns-in_err-put_line-2 : goal.returns-in_err-put_line-2
unfolding head_lines
returns-in_err-put_line-2 g c =
    let r = c.from_residual-in_err-put_line-2 in
    let stop = line (codes "stop" ∷ decimal c.args.outcome.now.stop ∷ []) in
    let bound = line (codes "bound" ∷ decimal c.args.outcome.now.bound ∷ []) in
    puts_then r.result _ _ _ _ (line (codes "spp-report" ∷ codes "1" ∷ [])) (stop ++ bound) c.in_ok-put_line.ensures.0 (puts_failed r.result _ _ _ stop bound r.ensures.0 c.in_err-put_line-2.ensures)

pub returns : goal.returns
unfolding head_lines
returns g c =
    let r = c.put_line-3 in
    let stop = line (codes "stop" ∷ decimal c.args.outcome.now.stop ∷ []) in
    let bound = line (codes "bound" ∷ decimal c.args.outcome.now.bound ∷ []) in
    puts_then r.result _ _ _ _ (line (codes "spp-report" ∷ codes "1" ∷ [])) (stop ++ bound) c.in_ok-put_line.ensures.0 (puts_then r.result _ _ _ _ stop bound c.in_ok-put_line-2.ensures.0 r.ensures)
