-- When a run is over, and when its paths are stable (Griffin, Shepherd, Wilfong 2002).
use Rattle.std.specs.Prelude.{ℕ, ◌≡◌, ◌<◌, ◌==◌, Bool, not, ◌&&◌, List, [], ◌∷◌, if◌then◌else◌}
use Rattle.std.specs.List.{find, list_any, zip}
use Rattle.std.specs.Option.{unwrap_or}
use Rattle.tw_event.specs.declared.event.Event.{Event}
use Rattle.tw_event.specs.declared.event.PathNo.{PathNo}
use Rattle.tw_model.specs.declared.net.Hop.{Hop}
use Rattle.tw_model.specs.declared.state.Row.{Row}
use Rattle.tw_model.specs.Net.{Net, empty_path, hops_of, origin_path, path, same_path}
use Rattle.tw_model.specs.State.{State, bars}
use Rattle.tw_sim.specs.Simulation.{only, state}
use Rattle.tw_sim.specs.Seq.{rest}
use Rattle.tw_model.specs.Case.{Case, simulation}

-- nothing is pending once the events before t are handled
abbrev pub IsQuiet : Case → ℕ → Type 0
IsQuiet case t = rest (simulation case) t ≡ []

-- whether a neighbour whose link is up has a path now that v followed by it is q
abbrev pub reaches : Net → ℕ → (ℕ → PathNo) → PathNo → Hop × Row → Bool
reaches net v ribs q p = p.1.up && (not ((ribs p.0.peer).0 == 0) && same_path (path net q) (v ∷ path net (ribs p.0.peer)))

-- whether q is not barred at v, and a neighbour's present path allows it
abbrev pub is_reached : Net → (ℕ → PathNo) → ℕ → State → PathNo → Bool
is_reached net ribs v s q = not (bars net v s.barred q) && list_any (reaches net v ribs q) (zip (hops_of net v) s.rows)

-- the first of v's paths that is not barred and that a neighbour's present path allows, or the empty path; at the origin (0)
abbrev pub stable_path : Net → (ℕ → PathNo) → ℕ → State → PathNo
stable_path net ribs v s =
    if v == 0 then origin_path else unwrap_or (find (is_reached net ribs v s) s.order) empty_path

-- every router has the best path that its neighbours' present paths allow
abbrev pub IsStable : Net → (ℕ → State) → Type 0
IsStable net states = (v : ℕ) → v < net.nodes → (states v).rib ≡ stable_path net (λ w. (states w).rib) v (states v)

-- whether the newest event changed its router's path
abbrev pub changes : Case → Event → List Event → Bool
changes case e older =
    let r = e.dst in let s = state (simulation case) r (only (simulation case) r older) in not (s.rib.0 == ((simulation case).after s e).rib.0)

-- the time of the last event that changed a path, or 0; newest first
abbrev pub last_change : Case → List Event → ℕ
last_change case [] = 0
last_change case (e ∷ older) = if changes case e older then e.time else last_change case older
