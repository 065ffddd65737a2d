-- What all routers of a machine have (own).
use Rattle.std.specs.Prelude.{ℕ, ◌-◌, List, [], length}
use Rattle.std.specs.List.{flat_map, range_with_len}
use Rattle.tw_core.specs.Machine.{Core, committed}
use Rattle.tw_core.specs.Parts.{total}
use Rattle.tw_event.specs.declared.event.Event.{Event}
use Rattle.tw_event.specs.Order.{event_before}
use Rattle.tw_model.specs.Case.{Case, simulation}
use Rattle.tw_model.specs.declared.outcome.RouterEnd.{RouterEnd}
use Rattle.tw_model.specs.Summary.{end_of}
use Rattle.tw_sim.specs.Ordered.{insert_all}
use Rattle.tw_sim.specs.Simulation.{state}
use Rattle.tw_warp.specs.Warp.{Warp, warp_core}

-- in the order of events
abbrev pub committed_events : Warp → List Event
committed_events w = insert_all event_before (flat_map (λ r. committed (simulation w.case) (warp_core w) r) (range_with_len 0 w.case.net.nodes)) []

-- how many events of a router are handled and not committed
abbrev pub ahead_at : Case → Core Event → ℕ → ℕ
ahead_at case C r = length (C.history r) - length (committed (simulation case) C r)

-- and of all routers together
abbrev pub count_ahead : Warp → ℕ
count_ahead w = total (λ r. ahead_at w.case (warp_core w) r) (range_with_len 0 w.case.net.nodes)

-- how a router stands after all that it has handled
abbrev pub end_at : Case → Core Event → ℕ → RouterEnd
end_at case C r = end_of (state (simulation case) r (C.history r))
