use Rattle.std.proofs.Common.{◌≡◌, ◌-◌, length}
use Rattle.std.specs.List.{find, range_with_len}
use Rattle.tw_elimination.specs.Narrowing.{list_at}
use Rattle.tw_instance.specs.Tables.{items}
use Rattle.tw_policy.specs.Search.{has_choice}
use Rattle.tw_stable.proofs.lists.first_choice.Given as goal

abbrev pub invariant-loop-node : goal.invariant-loop-node
invariant-loop-node l =
    find (has_choice (list_at (items l.lists))) (range_with_len l.node (length l.lists - l.node))
    ≡ find (has_choice (list_at (items l.lists))) (range_with_len 0 (length l.lists))
