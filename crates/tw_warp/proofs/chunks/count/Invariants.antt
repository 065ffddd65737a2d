use Rattle.std.proofs.Common.{◌≡◌, ◌+◌, ◌*◌, ◌≤◌, ◌++◌, drop, length}
use Rattle.tw_warp.specs.Flight.{all_of}
use Rattle.tw_warp.proofs.chunks.count.Given as goal

abbrev pub invariant-loop-chunk : goal.invariant-loop-chunk
invariant-loop-chunk l = record {
  sum : l.count + length (all_of (drop l.chunk-index l.chunks)) ≡ length (all_of l.fn.chunks ++ l.fn.recent);
  fits : l.count ≤ (l.chunk-index + 1) * 18446744073709551616;
}
