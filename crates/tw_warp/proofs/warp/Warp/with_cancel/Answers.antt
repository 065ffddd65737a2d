use Rattle.std.proofs.Common.{◌<◌, ℕ, true, length, refl, sym, subst, arith}
use Rattle.tw_warp.specs.Inside.{warp_of}
use Rattle.tw_shard.specs.Shard.{IsOpeningShard}
use Rattle.tw_warp.specs.Warp.{shard_at}
use Rattle.tw_warp.proofs.Openings.{opened_is, opens, opens_exactly}
use Rattle.tw_warp.proofs.warp.Warp.with_cancel.Goals as goal

each : (c : goal.After-new) → (k : ℕ) → k < length c.in_ok-shards.shards.items
    → IsOpeningShard c.args.case.now k (length c.in_ok-shards.shards.items) true c.args.cancel (shard_at (warp_of
    (record { case = c.args.case; shards = c.in_ok-shards.shards; flight = c.new.result; bound = 0; stop = c.args.stop; cancel = c.args.cancel })) k)
each c k h =
    let count = c.in_ok-shards.ensures.count in
    subst (λ n. IsOpeningShard c.args.case.now k n true c.args.cancel (shard_at (warp_of (record { case = c.args.case; shards = c.in_ok-shards.shards; flight = c.new.result; bound = 0; stop = c.args.stop; cancel = c.args.cancel })) k))
    (sym count) (c.in_ok-shards.ensures.each k (omega arith))

some : (c : goal.After-new) → 0 < length c.in_ok-shards.shards.items
some c = let count = c.in_ok-shards.ensures.count in let more = c.requires.some in omega arith

pub invariant_of-result : goal.invariant_of-result
invariant_of-result c =
    opened_is _ c.instance.ensures.case (some c) (each c) c.new.ensures refl c.requires.stop

pub returns-clause-opens : goal.returns-clause-opens
returns-clause-opens c = opens _ c.instance.ensures.case (some c) (each c) c.new.ensures refl

pub returns-clause-core : goal.returns-clause-core
returns-clause-core c = opens_exactly _ c.instance.ensures.case (some c) (each c) c.new.ensures refl
