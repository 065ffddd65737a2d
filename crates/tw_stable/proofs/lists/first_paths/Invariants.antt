use Rattle.std.proofs.Common.{◌≡◌, map}
use Rattle.std.specs.List.{range_with_len}
use Rattle.tw_elimination.specs.Narrowing.{list_at}
use Rattle.tw_instance.specs.Tables.{items}
use Rattle.tw_policy.specs.Search.{first_of}
use Rattle.tw_stable.proofs.lists.first_paths.Given as goal

abbrev pub invariant-loop-paths : goal.invariant-loop-paths
invariant-loop-paths l = l.ribs.items ≡ map (first_of (list_at (items l.lists))) (range_with_len 0 l.paths-index)
