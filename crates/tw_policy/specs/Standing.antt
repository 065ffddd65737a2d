-- How each router stands once its script is over: its ranks, what is barred, which links are up (own).
use Rattle.std.specs.Prelude.{ℕ, ◌==◌, List, []}
use Rattle.std.specs.List.{filter}
use Rattle.tw_event.specs.declared.event.Event.{Event}
use Rattle.tw_model.specs.State.{State}
use Rattle.tw_model.specs.Case.{Case, opening_events, simulation}
use Rattle.tw_sim.specs.Ordered as ordered
use Rattle.tw_sim.specs.Simulation.{state}

-- the scripted events of a router, the newest first
abbrev pub script_of : Case → ℕ → List Event
script_of case v = ordered.insert_all (λ x y. (simulation case).before y x) (filter (λ e. e.dst == v) (opening_events case.scenes)) []

-- what a router knows that has handled these alone
abbrev pub standing : Case → ℕ → State
standing case v = state (simulation case) v (script_of case v)
