use Rattle.std.proofs.Common.{◌≡◌, false, length}
use Rattle.std.specs.List.{All}
use Rattle.tw_device.proofs.Puts.{IsPartway}
use Rattle.tw_report.specs.Lines.{NamesPath}
use Rattle.tw_report.specs.Report.{event_lines}
use Rattle.tw_report.proofs.event_page.put_events.Given as goal

-- the lines of the events before the rest are put
abbrev pub invariant-loop-rest : goal.invariant-loop-rest
invariant-loop-rest g l =
    (g.S.Sink.failed l.sink ≡ false)
    × All (λ e. NamesPath l.instance e.body) l.rest
    × IsPartway (event_lines l.instance l.events) (event_lines l.instance l.rest) (g.S.Sink.written l.initial.sink) (g.S.Sink.written l.sink)

abbrev pub decreases-loop-rest : goal.decreases-loop-rest
decreases-loop-rest g l = length l.rest
