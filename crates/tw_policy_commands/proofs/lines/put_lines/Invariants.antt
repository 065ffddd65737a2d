use Rattle.std.proofs.Common.{◌≡◌, false, drop}
use Rattle.std.specs.List.{flat_map}
use Rattle.tw_device.proofs.Puts.{IsPartway}
use Rattle.tw_policy_commands.proofs.Texts.{text_of}
use Rattle.tw_policy_commands.proofs.lines.put_lines.Given as goal

-- the lines before are put
abbrev pub invariant-loop-words : goal.invariant-loop-words
invariant-loop-words g l =
    (g.S.Sink.failed l.sink ≡ false)
    × IsPartway (flat_map text_of l.lines) (flat_map text_of (drop l.words-index l.lines)) (g.S.Sink.written l.initial.sink) (g.S.Sink.written l.sink)
