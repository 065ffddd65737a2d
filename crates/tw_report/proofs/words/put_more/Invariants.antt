use Rattle.std.proofs.Common.{◌≡◌, false, drop}
use Rattle.std.specs.List.{flat_map}
use Rattle.tw_device.proofs.Puts.{IsPartway}
use Rattle.tw_report.specs.Words.{spaced_word}
use Rattle.tw_report.proofs.words.put_more.Given as goal

-- the texts of those before are put
abbrev pub invariant-loop-word : goal.invariant-loop-word
invariant-loop-word g l =
    (g.S.Sink.failed l.sink ≡ false)
    × IsPartway (flat_map spaced_word l.words) (flat_map spaced_word (drop l.word-index l.words)) (g.S.Sink.written l.initial.sink) (g.S.Sink.written l.sink)
