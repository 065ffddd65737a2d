use Rattle.std.proofs.Common.{◌≡◌, false, is_some}
use Rattle.std.specs.Io.KnownBytes.{Keeps}
use Rattle.tw_device.proofs.source.OverReadSource.get.Given as goal

-- no read so far has given anything
abbrev pub invariant-loop : goal.invariant-loop
invariant-loop g l =
    Keeps (g.R.Read.remaining l.initial.self-inside.reader) (g.R.Read.remaining l.self-inside.reader) × (is_some l.self-inside.failure ≡ false)
