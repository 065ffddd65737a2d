use Rattle.std.proofs.Common.{ℕ, List, ◌++◌, length}
use Rattle.tw_text.specs.PathLine.{AreNumbers}
use Rattle.tw_text.proofs.path_line.numbers_in.Given as goal

-- what follows is read behind what was read
abbrev pub invariant-loop-number : goal.invariant-loop-number
invariant-loop-number l = (ns : List ℕ) → AreNumbers l.rest ns → AreNumbers l.text (l.numbers.items ++ ns)

abbrev pub decreases-loop-number : goal.decreases-loop-number
decreases-loop-number l = length l.rest
