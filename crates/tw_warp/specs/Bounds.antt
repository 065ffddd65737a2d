-- Bounds of shards, and the least time of several lists (own).
use Rattle.std.specs.Prelude.{ℕ, max, List, [], ◌∷◌}
use Rattle.tw_core.specs.Steps.{least_time}
use Rattle.tw_shard.specs.Shard.{Shard}
use Rattle.tw_sim.specs.Simulation.{Simulation}

-- the least time of what is read of each, and of another time
abbrev pub least_of_all : {S E A : Type 0} → Simulation S E → (A → List E) → List A → ℕ → ℕ
least_of_all m read [] t = t
least_of_all m read (a ∷ rest) t = least_of_all m read rest (least_time m (read a) t)

-- a shard whose bound has become the greater of itself and this one
abbrev pub raised : ℕ → Shard → Shard
raised bound s = record s { bound = max s.bound bound }
