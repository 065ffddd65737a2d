use Rattle.std.proofs.Common.{ℕ, ◌≡◌, map}
use Rattle.std.specs.List.{range_with_len}
use Rattle.tw_elimination.proofs.placing.first_counts.Given as goal

abbrev pub invariant-loop : goal.invariant-loop
invariant-loop l = l.placed.items ≡ map (λ (v : ℕ). 0) (range_with_len 0 l.counter)
