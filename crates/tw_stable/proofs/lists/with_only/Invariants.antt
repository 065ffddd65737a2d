use Rattle.std.proofs.Common.{◌≡◌, take}
use Rattle.tw_instance.specs.Tables.{items}
use Rattle.tw_stable.specs.Splitting.{with_only}
use Rattle.tw_stable.proofs.lists.with_only.Given as goal

abbrev pub invariant-loop-node : goal.invariant-loop-node
invariant-loop-node l = items l.with.items ≡ take l.node (with_only (items l.lists) l.router l.path)
