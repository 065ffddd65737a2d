-- The values of a function at the first numbers.
use Rattle.std.specs.Prelude.{ℕ, List, map}
use Rattle.std.specs.List.{range_with_len}

-- f 0, f 1 and so on, n of them
abbrev pub first : {E : Type 0} → (ℕ → E) → ℕ → List E
first f n = map f (range_with_len 0 n)
