use Rattle.std.proofs.Common.{ℕ, ◌≡◌, ◌≤◌}
use Rattle.tw_instance.specs.Tables.{items}
use Rattle.tw_model.specs.Case.{IsCase}
use Rattle.tw_elimination.specs.Narrowing.{AreLists, halt_within, lists_after, one_round, total_in}
use Rattle.tw_elimination.specs.Standing.{standing_routers}
use Rattle.tw_elimination.proofs.narrowing.eliminate_within.Given as goal

abbrev pub invariant-loop-alloc : goal.invariant-loop-alloc
invariant-loop-alloc l = record {
  is : IsCase l.case;
  same : l.routers ≡ l.fn.routers;
  routers : l.routers ≡ standing_routers l.case;
  left : AreLists l.case (items l.left.items);
  next : items l.next.items ≡ one_round l.case (items l.left.items);
  halt : (n : ℕ) × (total_in l.case (items l.left.items) ≤ n) × (lists_after l.case n (items l.left.items) ≡ halt_within l.case (items l.fn.lists.items));
}

abbrev pub decreases-loop-alloc : goal.decreases-loop-alloc
decreases-loop-alloc l = total_in l.case (items l.left.items)
