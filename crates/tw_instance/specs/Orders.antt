-- Neighbours of a router in ascending order: a row with nobody behind it (own).
use Rattle.std.specs.Prelude.{ℕ, ◌≡◌, ◌≢◌, ◌<◌, List, length, slice_index_or}
use Rattle.tw_instance.specs.declared.peers.TheConstants.{NOBODY}

-- the number stands in the row at that place
abbrev pub StandsAt : List ℕ → ℕ → ℕ → Type 0
StandsAt row number place = (place < length row) × (slice_index_or row place 0 ≡ number)

-- each number of the order stands at its place in the row
abbrev pub StandAsIn : List ℕ → List ℕ → Type 0
StandAsIn row order = (place : ℕ) → slice_index_or order place NOBODY ≢ NOBODY → StandsAt row (slice_index_or order place NOBODY) place
