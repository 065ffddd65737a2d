use Rattle.std.proofs.Common.{◌≡◌, ◌++◌, ℕ, List, false, length}
use Rattle.std.specs.Io.KnownBytes.{Appends}
use Rattle.tw_device.proofs.sink.put_all.Given as goal

-- a prefix of the bytes was taken, and the others are left
abbrev pub invariant-loop-rest : goal.invariant-loop-rest
invariant-loop-rest g l =
    (g.S.Sink.failed l.sink ≡ false)
    × ((front : List ℕ) × (l.bytes ≡ front ++ l.rest) × Appends (g.S.Sink.written l.initial.sink) (g.S.Sink.written l.sink) front)

abbrev pub decreases-loop-rest : goal.decreases-loop-rest
decreases-loop-rest g l = length l.rest
