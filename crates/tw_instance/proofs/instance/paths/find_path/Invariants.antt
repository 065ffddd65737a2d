use Rattle.std.proofs.Common.{◌≡◌, ◌-◌, ◌≤◌, ◌∷◌, drop, length}
use Rattle.std.specs.List.{find}
use Rattle.tw_model.specs.Net.{path, same_path}
use Rattle.tw_instance.proofs.instance.paths.find_path.Given as goal

abbrev pub invariant-loop-skipped : goal.invariant-loop-skipped
invariant-loop-skipped l = record {
  within : l.start ≤ length l.numbers;
  same : find (λ q. same_path (path l.instance q) (l.node ∷ l.rest)) (drop l.start l.numbers) ≡ find (λ q. same_path (path l.instance q) (l.node ∷ l.rest)) l.numbers;
}

abbrev pub decreases-loop-skipped : goal.decreases-loop-skipped
decreases-loop-skipped l = length l.numbers - l.start
