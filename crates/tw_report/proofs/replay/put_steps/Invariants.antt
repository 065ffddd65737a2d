use Rattle.std.proofs.Common.{◌≡◌, ◌+◌, false, drop}
use Rattle.tw_device.proofs.Puts.{IsPartway}
use Rattle.tw_report.specs.ReplayText.{step_lines}
use Rattle.tw_report.proofs.replay.put_steps.Given as goal

-- the lines of the steps before are put
abbrev pub invariant-loop-before : goal.invariant-loop-before
invariant-loop-before g l =
    (g.S.Sink.failed l.sink ≡ false)
    × IsPartway (step_lines 1 l.answers) (step_lines (l.before + 1) (drop l.before l.answers)) (g.S.Sink.written l.initial.sink) (g.S.Sink.written l.sink)
