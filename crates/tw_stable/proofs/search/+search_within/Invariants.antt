use Rattle.std.proofs.Common.{ℕ, ◌≡◌, ◌≤◌, take}
use Rattle.std.specs.List.{flat_map}
use Rattle.tw_elimination.specs.Narrowing.{halt_within, list_at, total_in}
use Rattle.tw_instance.specs.Tables.{items}
use Rattle.tw_stable.specs.Progress.{go_on, way_of}
use Rattle.tw_stable.specs.Splitting.{met_within, with_only}
use Rattle.tw_stable.proofs.search.+search_within.Given as goal

abbrev pub decreases-search_within : goal.decreases-search_within
decreases-search_within g l = total_in l.case.now (items l.lists.items)

abbrev pub invariant-loop-path : goal.invariant-loop-path
invariant-loop-path g l =
    let halt = halt_within l.case (items l.fn.lists.items) in record {
      same : l.routers ≡ l.fn.routers;
      met : (n : ℕ) → total_in l.case halt ≤ n
          → way_of l.progress ≡ go_on (way_of l.initial.progress) (flat_map (λ q. met_within l.case n (with_only halt l.node q)) (take l.path-index (list_at halt l.node)));
    }
