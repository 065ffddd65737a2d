use Rattle.std.proofs.Common.{◌≡◌, ◌*◌, ◌/◌, ◌==◌, ℕ, List, length, subst, sym, arith}
use Rattle.std.specs.Simd.{first_chunks}
use Rattle.tw_lanes.proofs.Chunks.{IsSkip, chunks_before, skips}
use Rattle.tw_lanes.proofs.ranks.skip_len.Goals as goal

skip : (rank : ℕ) (ranks : List ℕ) (chunks : List (List ℕ)) (m : ℕ) → chunks ≡ first_chunks 8 (length ranks / 8) ranks
    → m ≡ chunks_before (λ other. other == rank) chunks → IsSkip (λ other. other == rank) ranks (8 * m)
skip rank ranks chunks m front before =
    subst (λ j. IsSkip (λ other. other == rank) ranks (8 * j)) (sym before)
    (subst (λ cs. IsSkip (λ other. other == rank) ranks (8 * chunks_before (λ other. other == rank) cs)) (sym front) (skips (λ other. other == rank) 8 (length ranks / 8) ranks (omega arith)))

pub overflow_mul-result : goal.overflow_mul-result
overflow_mul-result c = let s = skip c.args.rank c.args.ranks.now _ _ c.as_chunks.ensures.front c.chunks_without.ensures in omega arith

pub returns : goal.returns
returns c = let s = skip c.args.rank c.args.ranks.now _ _ c.as_chunks.ensures.front c.chunks_without.ensures in record { within = s.0; past = s.1 }
