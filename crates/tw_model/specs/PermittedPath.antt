-- Permitted paths, as they were given (Griffin, Shepherd, Wilfong 2002).
use Rattle.std.specs.Prelude.{ℕ, List}

-- a path that is permitted at its owner: its nodes, from the owner to 0
pub record PermittedPath : Type 0 where
  pub owner : ℕ
  pub nodes : List ℕ
