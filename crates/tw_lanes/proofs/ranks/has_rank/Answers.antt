use Rattle.std.proofs.Common.{eqb, not, ap, ◌∙◌, arith, w32}
use Rattle.std.proofs.lemmas.Simd.{bitmask_splat}
use Rattle.tw_lanes.proofs.Chunks.{mask_not_empty}
use Rattle.tw_lanes.proofs.ranks.has_rank.Goals as goal

pub returns : goal.returns
returns c =
    ap (λ m. not (eqb m 0)) (bitmask_splat w32 eqb c.args.chunk.now 8 c.args.rank c.told-chunk (omega arith))
    ∙ mask_not_empty (λ x. eqb x c.args.rank) c.args.chunk.now
