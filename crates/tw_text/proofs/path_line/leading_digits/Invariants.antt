use Rattle.std.proofs.Common.{◌-◌, ◌≤◌, length}
use Rattle.tw_text.proofs.Digits.{AreDigits}
use Rattle.tw_text.proofs.path_line.leading_digits.Given as goal

abbrev pub invariant-loop-end : goal.invariant-loop-end
invariant-loop-end l = record { most : l.end ≤ 9; within : l.end ≤ length l.text; front : AreDigits l.text l.end l.value }

abbrev pub decreases-loop-end : goal.decreases-loop-end
decreases-loop-end l = length l.text - l.end
