use Rattle.std.proofs.Common.{ltb, ap, ◌∙◌, w32}
use Rattle.std.specs.Simd.Lanes.{sel_l}
use Rattle.std.proofs.lemmas.Simd.{tops_compared}
use Rattle.tw_lanes.proofs.Extremes.{select-max}
use Rattle.tw_lanes.proofs.ranks.greater_lanes.Goals as goal

pub returns : goal.returns
returns c =
    let best = c.args.best in
    let chunk = c.args.chunk.now in
    ap (λ tests. sel_l tests chunk best) (tops_compared w32 ltb best chunk) ∙ select-max best chunk
