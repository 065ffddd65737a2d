use Rattle.std.proofs.Common.{◌≡◌, false, drop}
use Rattle.tw_device.proofs.Puts.{IsPartway}
use Rattle.tw_report.specs.Report.{router_lines}
use Rattle.tw_report.proofs.report.put_routers.Given as goal

-- the lines of the routers before are put
abbrev pub invariant-loop-node : goal.invariant-loop-node
invariant-loop-node g l =
    (g.S.Sink.failed l.sink ≡ false)
    × IsPartway (router_lines l.instance 0 l.routers) (router_lines l.instance l.node (drop l.node l.routers)) (g.S.Sink.written l.initial.sink) (g.S.Sink.written l.sink)
