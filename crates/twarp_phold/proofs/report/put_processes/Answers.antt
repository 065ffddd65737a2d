use Rattle.std.proofs.Common.{◌+◌, ◌<◌, ◌≤◌, subst}
use Rattle.tw_device.proofs.Puts.{partway_end, partway_more, puts_partway}
use Rattle.twarp_phold.specs.Report.{process_lines}
use Rattle.twarp_phold.proofs.Pages.{lines_from, lines_next, lines_over}
use Rattle.twarp_phold.proofs.report.put_processes.Goals as goal

pub returns-in_err-put_process : goal.returns-in_err-put_process
returns-in_err-put_process g c =
    let m = g.E.Ended.phold c.args.run.now in
    let stop = g.E.Ended.end c.args.run.now in
    let r = c.loop-number.number in
    puts_partway c.from_residual.result (process_lines m stop) _ (lines_from m stop (r + 1)) _ _ _ _ _
    (lines_next m stop r (subst (λ p. r < p.processes) c.model.ensures c.loop-number-test.true)) c.loop-number.invariant.1 c.from_residual.ensures.0 c.in_err-put_process.ensures

pub loop-number-preserved : goal.loop-number-preserved
loop-number-preserved g c =
    let m = g.E.Ended.phold c.args.run.now in
    let stop = g.E.Ended.end c.args.run.now in
    let r = c.loop-number.number in (
      c.in_ok-put_process.ensures.1,
      partway_more (process_lines m stop) _ _ (lines_from m stop (r + 1)) _ _ _ (lines_next m stop r (subst (λ p. r < p.processes) c.model.ensures c.loop-number-test.true)) c.loop-number.invariant.1 c.in_ok-put_process.ensures.0,
    )

pub returns : goal.returns
returns g c =
    let m = g.E.Ended.phold c.args.run.now in
    let stop = g.E.Ended.end c.args.run.now in (
      partway_end (process_lines m stop) _ _ _ (lines_over m stop c.loop-number.number (subst (λ p. p.processes ≤ c.loop-number.number) c.model.ensures c.loop-number-test.false)) c.loop-number.invariant.1,
      c.loop-number.invariant.0,
    )
