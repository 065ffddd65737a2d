-- Lists in ascending order, by a test of whether one element comes before another and one of whether two are the same (own).
use Rattle.std.specs.Prelude.{◌≡◌, ◌<◌, Bool, false, List, [], ◌∷◌}
use Rattle.tw_sim.specs.Ordered.{times}

module _ {E : Type 0} (before same : E → E → Bool) where
  -- the first ones first: what stands behind an element is not before it
  abbrev pub IsRising : List E → Type 0
  IsRising [] = Unit {0}
  IsRising (x ∷ xs) = ((e : E) → 0 < times same e xs → before e x ≡ false) × IsRising xs
