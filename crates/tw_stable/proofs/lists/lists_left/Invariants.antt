use Rattle.std.proofs.Common.{◌≡◌, map}
use Rattle.std.specs.List.{range_with_len}
use Rattle.tw_elimination.specs.Rounds.{left_in}
use Rattle.tw_instance.specs.Tables.{items}
use Rattle.tw_stable.proofs.lists.lists_left.Given as goal

abbrev pub invariant-loop-node : goal.invariant-loop-node
invariant-loop-node l = items l.lists.items ≡ map (left_in l.elimination.case l.elimination.rounds) (range_with_len 0 l.node)
