-- Numerals that are spelled once (own).
use Rattle.std.specs.Prelude.{ℕ, ◌≡◌, ◌<◌, ◌≤◌, List, length, slice_index_or, take}
use Rattle.std.specs.Fmt.{decimal}
use Rattle.tw_report.specs.declared.numerals.Numeral.{Numeral}

-- the numeral is that of the number
pub record IsNumeral (n : ℕ) (numeral : Numeral) : Type 0 where
  pub count : numeral.count ≤ 4
  pub bytes : length numeral.bytes ≡ 4
  pub digits : take numeral.count numeral.bytes ≡ decimal n

-- each numeral is that of the number at whose place it stands
abbrev pub AreNumerals : List Numeral → Type 0
AreNumerals kept = (n : ℕ) (d : Numeral) → n < length kept → IsNumeral n (slice_index_or kept n d)
