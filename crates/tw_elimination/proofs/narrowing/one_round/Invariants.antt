use Rattle.std.proofs.Common.{◌≡◌, map}
use Rattle.std.specs.List.{range_with_len}
use Rattle.tw_instance.specs.Tables.{items}
use Rattle.tw_elimination.specs.Narrowing.{left_at}
use Rattle.tw_elimination.proofs.narrowing.one_round.Given as goal

abbrev pub invariant-loop-node : goal.invariant-loop-node
invariant-loop-node l = record {
  next : items l.next.items ≡ map (left_at l.case (items l.lists)) (range_with_len 0 l.node);
}
