use Rattle.std.proofs.Common.{◌≡◌, false, is_some}
use Rattle.std.specs.Io.KnownBytes.{Keeps}
use Rattle.tw_device.proofs.sink.OverWriteSink.put.Given as goal

-- no write so far has taken anything
abbrev pub invariant-loop : goal.invariant-loop
invariant-loop g l =
    Keeps (g.W.Write.contents l.initial.self-inside.writer) (g.W.Write.contents l.self-inside.writer) × (is_some l.self-inside.failure ≡ false)
