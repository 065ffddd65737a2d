use Rattle.std.proofs.Common.{◌≡◌, ◌+◌, false, drop}
use Rattle.tw_device.proofs.Puts.{IsPartway}
use Rattle.tw_instance.specs.Tables.{items}
use Rattle.tw_policy_commands.specs.Stable.{assignment_lines}
use Rattle.tw_policy_commands.proofs.stable.put_assignments.Given as goal

-- the assignments before are put
abbrev pub invariant-loop-index : goal.invariant-loop-index
invariant-loop-index g l =
    (g.S.Sink.failed l.sink ≡ false)
    × IsPartway (assignment_lines l.instance 1 (items l.assignments)) (assignment_lines l.instance (l.index + 1) (drop l.index (items l.assignments)))
    (g.S.Sink.written l.initial.sink) (g.S.Sink.written l.sink)
