-- Which worker has which router, as the options of `run` say (own).
use Rattle.std.specs.Prelude.{ℕ, ◌≡◌, ◌<◌, ◌+◌, ◌*◌, ◌/◌, ◌%◌, List, map, if◌then◌else◌}
use Rattle.std.specs.List.{range_with_len}
use Rattle.tw_exchange.specs.Board.{who, workers}
use Rattle.tw_options.specs.declared.command_line.Asked.{Asked as AnAsked}
use Rattle.tw_parallel.specs.Sim.{Sim}
use Rattle.tw_sim.specs.Owners.{owner}

-- the worker that has a router at the beginning: in blocks of routers in a row, or in turn
abbrev pub first_owner : AnAsked → ℕ → ℕ → ℕ → ℕ
first_owner asked workers routers r = if asked.blocks then r * workers / routers else owner workers r

-- and after so many checkpoints, at each of which routers may go to the next worker
abbrev pub owner_after : AnAsked → ℕ → ℕ → ℕ → ℕ → ℕ
owner_after asked workers routers checkpoints r =
    if asked.rotate then (first_owner asked workers routers r + checkpoints) % workers else first_owner asked workers routers r

-- that of each router, by rising router
abbrev pub owners_after : AnAsked → ℕ → ℕ → ℕ → List ℕ
owners_after asked workers routers checkpoints = map (owner_after asked workers routers checkpoints) (range_with_len 0 routers)

-- the routers of a run are dealt out to all of its workers, as they are to be after so many checkpoints
abbrev pub AreDealtAs : AnAsked → ℕ → Sim → Type 0
AreDealtAs asked checkpoints s =
    (r : ℕ) → r < s.case.net.nodes → who s.board r ≡ owner_after asked (workers s.board) s.case.net.nodes checkpoints r

-- the routers of a run are dealt out to all of its workers, in one of these ways
abbrev pub AreDealtToAll : Sim → Type 0
AreDealtToAll s = (asked : AnAsked) × (checkpoints : ℕ) × AreDealtAs asked checkpoints s
