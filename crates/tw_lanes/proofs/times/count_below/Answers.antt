use Rattle.std.proofs.Common.{◌≡◌, ◌+◌, ◌<◌, ◌/◌, ◌^◌, length, subst, sym, arith, count_by, nat_lt}
use Rattle.std.specs.List.{sum_by}
use Rattle.std.proofs.lemmas.List.Sums.{count_by-le-length}
use Rattle.tw_lanes.proofs.Chunks.{count_in_parts}
use Rattle.tw_lanes.proofs.times.count_below.Goals as goal

pub below_in_chunks-requires : goal.below_in_chunks-requires
below_in_chunks-requires c =
    let times = c.args.times.now in
    let parts = count_in_parts (λ time. nat_lt time c.args.limit) 8 (length times / 8) times in
    let most = count_by-le-length (λ time. nat_lt time c.args.limit) times in
    subst (λ chunks. sum_by (count_by (λ time. nat_lt time c.args.limit)) chunks < 2 ^ 64) (sym c.as_chunks.ensures.front) (omega arith)

pub returns : goal.returns
returns c =
    let times = c.args.times.now in
    let parts = count_in_parts (λ time. nat_lt time c.args.limit) 8 (length times / 8) times in
    cc

pub overflow_add-result : goal.overflow_add-result
overflow_add-result c =
    let times = c.args.times.now in
    let parts = count_in_parts (λ time. nat_lt time c.args.limit) 8 (length times / 8) times in
    let most = count_by-le-length (λ time. nat_lt time c.args.limit) times in
    let total : c.below_in_chunks.result + c.below_one_by_one.result ≡ count_by (λ time. nat_lt time c.args.limit) times = cc in
    omega arith
