-- The routers of a case once its script is over (own).
use Rattle.std.specs.Prelude.{ℕ, List, [], map}
use Rattle.std.specs.List.{range_with_len}
use Rattle.tw_event.specs.declared.event.Event.{Event}
use Rattle.tw_event.specs.Order.{event_before}
use Rattle.tw_model.specs.State.{Router}
use Rattle.tw_model.specs.Case.{Case, opening_events}
use Rattle.tw_sim.specs.Ordered.{insert_all}
use Rattle.tw_policy.specs.Standing.{standing}

-- the opening events of all routers, in their order
abbrev pub script_of : Case → List Event
script_of case = insert_all event_before (opening_events case.scenes) []

-- router v, as it stands once the script is over
abbrev pub standing_router : Case → ℕ → Router
standing_router case v = record { net = case.net; node = v; state = standing case v }

-- every router, as it stands then
abbrev pub standing_routers : Case → List Router
standing_routers case = map (standing_router case) (range_with_len 0 case.net.nodes)
