use Rattle.std.proofs.Common.{◌<◌, sym, arith}
use Rattle.tw_ordered.specs.Times.{never}
use Rattle.tw_queue.proofs.Leaves.{first_of_row}
use Rattle.tw_queue.proofs.least_times.LeastTimes.first_least.Goals as goal

pub returns-clause-some : goal.returns-clause-some
returns-clause-some c =
    let a = c.self.inside in
    let v = c.self.invariant in
    let some : 0 < a.count = omega (arith, c.if-self-eq0.false) in
    let first = rw c.deref.ensures.value at c.first_leaf.ensures in
    rw (sym c.self.view_is) (first_of_row a.count a.leaves a.nodes.items v.len v.count never c.first_leaf.result some (v.latest a.leaves (omega arith)) v.past first)
