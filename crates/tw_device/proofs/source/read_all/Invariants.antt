use Rattle.std.proofs.Common.{◌≡◌, ◌-◌, ◌≤◌, false, vec_len}
use Rattle.std.specs.Io.KnownBytes.{Consumes}
use Rattle.tw_device.proofs.source.read_all.Given as goal

-- what was read, and what is left, make what the source gives
abbrev pub invariant-loop-chunk : goal.invariant-loop-chunk
invariant-loop-chunk g l =
    (g.R.Source.failed l.source ≡ false) × Consumes (g.R.Source.remaining l.initial.source) (g.R.Source.remaining l.source) l.bytes.items × (vec_len l.bytes ≤ 67108864)

abbrev pub decreases-loop-chunk : goal.decreases-loop-chunk
decreases-loop-chunk g l = 67108864 - vec_len l.bytes
