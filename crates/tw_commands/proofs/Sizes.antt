-- The line of a case's sizes is that of equal sizes.
use Rattle.std.proofs.Common.{◌≡◌, ℕ, refl}
use Rattle.tw_commands.specs.Check.{sizes_line}

pub same_sizes : (nodes links paths scenario n l p s : ℕ) → nodes ≡ n → links ≡ l → paths ≡ p → scenario ≡ s → sizes_line nodes links paths scenario ≡ sizes_line n l p s
same_sizes nodes links paths scenario n l p s a b c d = rw (a, b, c, d) refl
