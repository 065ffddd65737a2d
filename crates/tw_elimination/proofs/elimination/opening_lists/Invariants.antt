use Rattle.std.proofs.Common.{◌≡◌, ◌≤◌, ◌+◌, length, map}
use Rattle.std.specs.List.{All, range_with_len}
use Rattle.tw_instance.specs.Tables.{items}
use Rattle.tw_model.specs.declared.limits.TheConstants.{MOST_PATHS}
use Rattle.tw_elimination.specs.Rounds.{left_in}
use Rattle.tw_elimination.proofs.elimination.opening_lists.Given as goal

abbrev pub invariant-loop-router : goal.invariant-loop-router
invariant-loop-router l = record {
  lists : items l.left.items ≡ map (left_in l.case 0) (range_with_len 0 l.router-index);
  few : All (λ paths. length paths ≤ MOST_PATHS + 1) (items l.left.items);
}
