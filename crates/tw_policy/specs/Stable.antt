-- Stable assignments (Griffin, Shepherd, Wilfong 2002): a path for each router, the best one that the others' paths allow.
use Rattle.std.specs.Prelude.{ℕ, ◌≡◌, ◌<◌}
use Rattle.tw_event.specs.declared.event.PathNo.{PathNo}
use Rattle.tw_model.specs.Net.{Net}
use Rattle.tw_model.specs.State.{State}
use Rattle.tw_model.specs.Quiet.{stable_path}

-- by how the routers stand, each has the best path that its neighbours' paths allow
abbrev pub IsStableAssignment : Net → (ℕ → State) → (ℕ → PathNo) → Type 0
IsStableAssignment net states ribs = (v : ℕ) → v < net.nodes → ribs v ≡ stable_path net ribs v (states v)
