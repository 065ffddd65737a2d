use Rattle.std.proofs.Common.{ℕ, suc, ◌≡◌, map}
use Rattle.std.specs.List.{range_with_len}
use Rattle.tw_instance.specs.Tables.{items}
use Rattle.tw_elimination.specs.Rounds.{AreLeft, left_in}
use Rattle.tw_elimination.proofs.elimination.next_lists.Given as goal

abbrev pub invariant-loop-node : goal.invariant-loop-node
invariant-loop-node l = record {
  lists : (n : ℕ) → AreLeft l.case n (items l.left) → items l.next.items ≡ map (left_in l.case (suc n)) (range_with_len 0 l.node);
}
