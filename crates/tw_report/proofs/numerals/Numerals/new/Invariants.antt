use Rattle.std.proofs.Common.{ℕ, ◌≡◌, ◌<◌, get_or, length}
use Rattle.tw_report.specs.Numerals.{IsNumeral}
use Rattle.tw_report.specs.declared.numerals.Numeral.{Numeral}
use Rattle.tw_report.proofs.numerals.Numerals.new.Given as goal

-- those before are the numerals of their places
abbrev pub invariant-loop-number : goal.invariant-loop-number
invariant-loop-number l = (length l.kept ≡ 1024) × ((n : ℕ) (d : Numeral) → n < l.number → IsNumeral n (get_or l.kept n d))
