-- Digits that are read one by one.
use Rattle.std.proofs.Common.{ℕ, List, if◌then◌else◌, Option, Some, None}
use Rattle.std.specs.Char.{is_ascii_digit}
use Rattle.std.specs.List.{list_all}
use Rattle.std.specs.Str.Parse.{digits_value_after}

-- the number that these digits write behind those of n, if they are digits
abbrev pub number_after : ℕ → List ℕ → Option ℕ
number_after n ds = if list_all is_ascii_digit ds then Some (digits_value_after 10 n ds) else None
