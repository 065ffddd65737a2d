-- Nodes that are marked as met, one mark for each router that there may be (own).
use Rattle.std.specs.Prelude.{ℕ, ◌==◌, nat_lt, Bool, false, List, length, slice_index_or, if◌then◌else◌}
use Rattle.std.specs.List.{list_any}

-- whether v is marked, or where there is no mark for it, stands among the nodes behind it
abbrev pub is_met : List Bool → ℕ → List ℕ → Bool
is_met marks v behind = if nat_lt v (length marks) then slice_index_or marks v false else list_any (λ w. w == v) behind
