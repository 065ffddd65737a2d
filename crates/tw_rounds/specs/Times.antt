-- The least time of messages (own).
use Rattle.std.specs.Prelude.{ℕ, List, [], ◌∷◌, min}
use Rattle.tw_sim.specs.declared.machine.Signed.{Signed}

-- the least of a time and of the times of messages
abbrev pub earliest : {E : Type 0} → (E → ℕ) → List (Signed E) → ℕ → ℕ
earliest time [] t = t
earliest time (x ∷ xs) t = earliest time xs (min t (time x.event))
