use Rattle.std.proofs.Common.{◌≡◌, false, drop}
use Rattle.tw_device.proofs.Puts.{IsPartway}
use Rattle.tw_policy_commands.specs.Stable.{assignment_text, rib_lines}
use Rattle.tw_policy_commands.proofs.stable.put_assignment.Given as goal

-- the number and the routers before are put
abbrev pub invariant-loop-node : goal.invariant-loop-node
invariant-loop-node g l =
    (g.S.Sink.failed l.sink ≡ false)
    × IsPartway (assignment_text l.instance l.number l.ribs) (rib_lines l.instance l.node (drop l.node l.ribs)) (g.S.Sink.written l.fn.sink) (g.S.Sink.written l.sink)
