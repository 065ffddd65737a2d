use Rattle.std.proofs.Common.{arith}
use Rattle.tw_queue.proofs.Leaves.{level_below, level_end, next_level, twice_fits}
use Rattle.tw_queue.proofs.least_times.first_leaf.Goals as goal

pub loop-level-preserved : goal.loop-level-preserved
loop-level-preserved c =
    let level = c.loop-level.level in
    let old = c.loop-level.invariant in
    let next = level_below c.args.leaves level old.1.0 old.1.1 c.loop-level-test.true in
    let fits = twice_fits c.args.leaves level next.0 next.1 in
    let len = c.requires.len in
    let child = c.first_child-node in (
      omega arith,
      next,
      next_level c.args.nodes.now level c.loop-level.node child.result c.requires.lesser old.0 (omega arith) old.2 child.ensures.parent child.ensures.lesser child.ensures.first,
    )

pub returns : goal.returns
returns c = grind (arith, level_end)
