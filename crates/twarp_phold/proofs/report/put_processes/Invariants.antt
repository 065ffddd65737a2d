use Rattle.std.proofs.Common.{◌≡◌, false}
use Rattle.tw_device.proofs.Puts.{IsPartway}
use Rattle.twarp_phold.specs.Report.{process_lines}
use Rattle.twarp_phold.proofs.Pages.{lines_from}
use Rattle.twarp_phold.proofs.report.put_processes.Given as goal

-- the lines of the processes before are put
abbrev pub invariant-loop-number : goal.invariant-loop-number
invariant-loop-number g l =
    (g.S.Sink.failed l.sink ≡ false)
    × IsPartway (process_lines (g.E.Ended.phold l.run) (g.E.Ended.end l.run)) (lines_from (g.E.Ended.phold l.run) (g.E.Ended.end l.run) l.number) (g.S.Sink.written l.initial.sink) (g.S.Sink.written l.sink)
