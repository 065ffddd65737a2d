use Rattle.std.proofs.Common.{ℕ, ◌≡◌, ◌+◌, ◌*◌, ◌<◌, ◌≤◌, ◌⊎◌, true, length}
use Rattle.std.specs.List.{All}
use Rattle.tw_model.specs.Rules.{IsNet}
use Rattle.tw_elimination.specs.Placing.{PlacesNothing, count_of, counts_after, has_router}
use Rattle.tw_elimination.proofs.Worklist.{left_to_place}
use Rattle.tw_elimination.proofs.placing.has_one_list.Given as goal

abbrev pub invariant-loop-router : goal.invariant-loop-router
invariant-loop-router l = record {
  is : IsNet l.instance;
  long : length l.placed.items ≡ l.instance.nodes;
  homes : All (λ v. v < l.instance.nodes) l.work.items;
  reached : (n : ℕ) × ((v : ℕ) → count_of l.instance l.placed.items v ≤ count_of l.instance (counts_after l.instance n) v);
  waits : (v : ℕ) → v < l.instance.nodes → (has_router l.work.items v ≡ true) ⊎ PlacesNothing l.instance l.placed.items v;
}

abbrev pub decreases-loop-router : goal.decreases-loop-router
decreases-loop-router l = 66 * left_to_place l.instance l.placed.items + length l.work.items
