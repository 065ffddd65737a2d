use Rattle.std.proofs.Common.{◌≡◌, ◌-◌, length}
use Rattle.std.specs.List.{list_all, range_with_len}
use Rattle.tw_elimination.specs.Narrowing.{list_at}
use Rattle.tw_instance.specs.Tables.{items}
use Rattle.tw_policy.specs.Search.{has_any}
use Rattle.tw_stable.proofs.lists.have_all.Given as goal

abbrev pub invariant-loop-paths : goal.invariant-loop-paths
invariant-loop-paths l =
    list_all (has_any (list_at (items l.lists))) (range_with_len l.paths-index (length l.lists - l.paths-index))
    ≡ list_all (has_any (list_at (items l.lists))) (range_with_len 0 (length l.lists))
