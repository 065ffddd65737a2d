use Rattle.std.proofs.Common.{◌≡◌, ◌+◌, length, take}
use Rattle.tw_warp.specs.Flight.{all_of}
use Rattle.tw_warp.proofs.chunks.find.Given as goal

abbrev pub invariant-loop-chunk : goal.invariant-loop-chunk
invariant-loop-chunk l = record {
  chunk : l.spot.chunk ≡ l.chunk-index;
  before : length (all_of (take l.chunk-index l.chunks)) + l.spot.index ≡ l.fn.index;
}
