use Rattle.std.proofs.Common.{ltb, ap, ◌∙◌, w64}
use Rattle.std.specs.Simd.Lanes.{sel_l}
use Rattle.std.proofs.lemmas.Simd.{tops_compared}
use Rattle.tw_lanes.proofs.Extremes.{select-min}
use Rattle.tw_lanes.proofs.times.lesser_lanes.Goals as goal

pub returns : goal.returns
returns c =
    let least = c.args.least in
    let chunk = c.args.chunk.now in
    ap (λ tests. sel_l tests least chunk) (tops_compared w64 ltb least chunk) ∙ select-min least chunk
