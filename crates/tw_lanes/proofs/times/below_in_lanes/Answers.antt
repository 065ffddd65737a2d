use Rattle.std.proofs.Common.{ltb, ap, ◌∙◌, arith, w64}
use lib.Count.{ones}
use Rattle.std.proofs.lemmas.Simd.{bitmask_splat, ones-mask_l}
use Rattle.tw_lanes.proofs.times.below_in_lanes.Goals as goal

pub returns : goal.returns
returns c = ap ones (bitmask_splat w64 ltb c.args.chunk.now 8 c.args.limit c.told-chunk (omega arith)) ∙ ones-mask_l (λ x. ltb x c.args.limit) c.args.chunk.now
