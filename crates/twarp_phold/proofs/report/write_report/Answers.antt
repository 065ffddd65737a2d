use Rattle.std.proofs.Common.{[], ◌∷◌, codes}
use Rattle.std.specs.Fmt.{decimal}
use Rattle.tw_device.proofs.Puts.{puts_failed, puts_then}
use Rattle.tw_report.specs.Words.{line}
use Rattle.twarp_phold.specs.Report.{process_lines, report_text}
use Rattle.twarp_phold.proofs.report.write_report.Goals as goal

pub returns-in_err-put_line : goal.returns-in_err-put_line
unfolding report_text
returns-in_err-put_line g c = puts_failed c.from_residual.result _ _ _ (line (codes "phold-report" ∷ codes "1" ∷ [])) _ c.from_residual.ensures.0 c.in_err-put_line.ensures

pub returns-in_err-put_line-2 : goal.returns-in_err-put_line-2
unfolding report_text
returns-in_err-put_line-2 g c =
    let r = c.from_residual-in_err-put_line-2 in
    let told = rw c.stop.ensures at c.in_err-put_line-2.ensures in
    puts_then r.result _ _ _ _ (line (codes "phold-report" ∷ codes "1" ∷ [])) _ c.in_ok-put_line.ensures.0
    (puts_failed r.result _ _ _ (line (codes "stop" ∷ decimal (g.E.Ended.end c.args.run.now) ∷ [])) _ r.ensures.0 told)

pub returns-in_err-put_processes : goal.returns-in_err-put_processes
unfolding report_text
returns-in_err-put_processes g c =
    let r = c.from_residual-in_err-put_processes in
    let stop = rw c.stop.ensures at c.in_ok-put_line-2.ensures.0 in
    puts_then r.result _ _ _ _ (line (codes "phold-report" ∷ codes "1" ∷ [])) _ c.in_ok-put_line.ensures.0
    (puts_then r.result _ _ _ _ (line (codes "stop" ∷ decimal (g.E.Ended.end c.args.run.now) ∷ [])) _ stop
    (puts_failed r.result _ _ _ (process_lines (g.E.Ended.phold c.args.run.now) (g.E.Ended.end c.args.run.now)) _ r.ensures.0 c.in_err-put_processes.ensures))

pub returns : goal.returns
unfolding report_text
returns g c =
    let r = c.put_line-3 in
    let stop = rw c.stop.ensures at c.in_ok-put_line-2.ensures.0 in
    let last = rw c.checksum.ensures at r.ensures in
    puts_then r.result _ _ _ _ (line (codes "phold-report" ∷ codes "1" ∷ [])) _ c.in_ok-put_line.ensures.0
    (puts_then r.result _ _ _ _ (line (codes "stop" ∷ decimal (g.E.Ended.end c.args.run.now) ∷ [])) _ stop
    (puts_then r.result _ _ _ _ (process_lines (g.E.Ended.phold c.args.run.now) (g.E.Ended.end c.args.run.now)) _ c.in_ok-put_processes.ensures.0 last))
