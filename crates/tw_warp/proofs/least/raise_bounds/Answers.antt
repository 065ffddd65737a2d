use Rattle.std.proofs.Common.{refl, sym, ◌∙◌, arith}
use Rattle.tw_warp.specs.Bounds.{raised}
use Rattle.tw_warp.proofs.Walks.{all_changed, changed_next}
use Rattle.tw_warp.proofs.least.raise_bounds.Goals as goal

pub loop-shard-init : goal.loop-shard-init
loop-shard-init c = refl

pub loop-shard-preserved : goal.loop-shard-preserved
loop-shard-preserved c =
    let here = c.loop-shard-test.true in
    let same = c.loop-shard.auto.shard-items in
    changed_next (raised c.args.bound) c.loop-shard.shard-items c.loop-shard.shard-index c.shard-item.result c.raise_bound.new.self (omega arith) c.raise_bound.ensures
    ∙ c.loop-shard.invariant

pub returns : goal.returns
returns c =
    let past = c.loop-shard-test.false in
    let same = c.loop-shard.auto.shard-items in
    sym (all_changed (raised c.args.bound) c.loop-shard.shard-items c.loop-shard.shard-index (omega arith)) ∙ c.loop-shard.invariant
