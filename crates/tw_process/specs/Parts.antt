-- What every event has, whatever else it carries (own, after Jefferson, Virtual Time, 1985).
use Rattle.std.specs.Prelude.{ℕ}

pub record Parts (E : Type 0) : Type 0 where
  -- when it happens, which process handles it, which sent it, and the sender's number for it
  pub time : E → ℕ
  pub dst : E → ℕ
  pub src : E → ℕ
  pub seq : E → ℕ
