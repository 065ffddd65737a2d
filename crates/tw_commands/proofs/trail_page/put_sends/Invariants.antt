use Rattle.std.proofs.Common.{◌≡◌, false, drop}
use Rattle.tw_commands.specs.Trail.{send_lines}
use Rattle.tw_device.proofs.Puts.{IsPartway}
use Rattle.tw_commands.proofs.trail_page.put_sends.Given as goal

-- the lines of the messages before are put
abbrev pub invariant-loop-send : goal.invariant-loop-send
invariant-loop-send g l =
    (g.S.Sink.failed l.sink ≡ false)
    × IsPartway (send_lines l.instance l.sends) (send_lines l.instance (drop l.send-index l.sends)) (g.S.Sink.written l.initial.sink) (g.S.Sink.written l.sink)
