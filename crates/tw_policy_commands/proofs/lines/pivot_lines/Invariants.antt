use Rattle.std.proofs.Common.{◌≡◌, map, take}
use Rattle.tw_elimination.specs.Wheel.{pivot_of}
use Rattle.tw_policy_commands.specs.Safe.{texts, wheel_words}
use Rattle.tw_policy_commands.proofs.lines.pivot_lines.Given as goal

abbrev pub invariant-loop-pivot : goal.invariant-loop-pivot
invariant-loop-pivot l = texts l.lines.items ≡ map (λ p. wheel_words l.instance (pivot_of p)) (take l.pivot-index l.pivots)
