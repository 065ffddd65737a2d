-- Messages in chunks (own).
use Rattle.std.specs.Prelude.{ℕ, ◌<◌, List, length, slice_index_or}
use Rattle.std.specs.List.{flat_map}
use Rattle.std.specs.declared.vec.Vec.{Vec}

-- what stands in chunks, the first chunk's first
abbrev pub all_of : {X Z : Type 0} → List (Vec X Z) → List X
all_of chunks = flat_map (λ chunk. chunk.items) chunks

-- if there is a chunk k, it has a place j
abbrev pub IsPlaceIn : {X Z : Type 0} → List (Vec X Z) → ℕ → ℕ → Type 0
IsPlaceIn {X} {Z} chunks k j = (d : Vec X Z) → k < length chunks → j < length (slice_index_or chunks k d).items
