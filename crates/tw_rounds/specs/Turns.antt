-- What shares in a row do, each in its turn.
use Rattle.std.specs.Prelude.{◌≡◌, ℕ, ◌+◌, ◌*◌, ◌^◌, ◌<◌, ◌≤◌, List, length}
use Rattle.std.specs.Fork.{slice_chunk}
use Rattle.tw_rounds.specs.declared.turning.Round.{Round}

-- so many shares at most, of so many each, which begin at start, may take their turns
pub record MayTurn {X : Type 0} (may : Round → ℕ → List X → Type 0) (round : Round) (start size count : ℕ) (xs : List X) : Type 0 where
  pub some : 0 < size
  pub counted : 0 < count
  pub covered : length xs ≤ count * size
  pub room : start + length xs < 2 ^ 64
  pub each : (n : ℕ) → n * size < length xs → may round (start + n * size) (slice_chunk xs size n)

-- each share, of so many, has taken its turn
pub record HaveTurned {X : Type 0} (has : Round → ℕ → List X → List X → Type 0) (round : Round) (start size : ℕ) (xs ys : List X) : Type 0 where
  pub count : length ys ≡ length xs
  pub each : (n : ℕ) → n * size < length xs → has round (start + n * size) (slice_chunk xs size n) (slice_chunk ys size n)
