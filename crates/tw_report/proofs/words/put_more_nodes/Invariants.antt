use Rattle.std.proofs.Common.{◌≡◌, false, drop}
use Rattle.std.specs.List.{flat_map}
use Rattle.tw_device.proofs.Puts.{IsPartway}
use Rattle.tw_report.specs.Words.{spaced_number}
use Rattle.tw_report.proofs.words.put_more_nodes.Given as goal

-- the texts of those before are put
abbrev pub invariant-loop-node : goal.invariant-loop-node
invariant-loop-node g l =
    (g.S.Sink.failed l.sink ≡ false)
    × IsPartway (flat_map spaced_number l.nodes) (flat_map spaced_number (drop l.node-index l.nodes)) (g.S.Sink.written l.initial.sink) (g.S.Sink.written l.sink)
