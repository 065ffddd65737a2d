-- A sequential run of a case, as far as it has come (own).
use Rattle.std.specs.Prelude.{ℕ, ◌≡◌, ◌<◌, ◌≤◌, List, [], ◌∷◌, map, true, reverse}
use Rattle.std.specs.List.{range_with_len}
use Rattle.tw_event.specs.declared.event.Event.{Event}
use Rattle.tw_model.specs.Case.{Case, IsCase, simulation}
use Rattle.tw_sim.specs.Seq.{World, begin, log, rest, turns}
use Rattle.tw_sim.specs.Simulation.{only, state}
use Rattle.tw_model.specs.State.{Router}
use Rattle.tw_handlers.specs.Calls.{is_full_at}

-- the greatest stop asked for, the events handled, the first one first, and the events pending, the least first
pub record Run : Type 0 where
  pub case : Case
  pub stop : ℕ
  pub events : List Event
  pub pending : List Event

-- nothing is handled
abbrev pub opening_run : Case → Run
opening_run case = record { case = case; stop = 0; events = []; pending = (begin (simulation case)).rest }

-- all events before the stop are handled
abbrev pub complete_run : Case → ℕ → Run
complete_run case stop = record { case = case; stop = stop; events = reverse (log (simulation case) stop); pending = rest (simulation case) stop }

-- its events and pending events, as the sequential run has them
abbrev pub world : Run → World Event
world run = record { log = reverse run.events; rest = run.pending }

-- router r after these events
abbrev pub router_after : Case → List Event → ℕ → Router
router_after case events r = record { net = case.net; node = r; state = state (simulation case) r (only (simulation case) r (reverse events)) }

-- every router after these events
abbrev pub routers_after : Case → List Event → List Router
routers_after case events = map (router_after case events) (range_with_len 0 case.net.nodes)

-- the sequential run has come so far on the way to its stop
pub record IsBegun (run : Run) : Type 0 where
  -- what runs is a case
  pub case : IsCase run.case
  -- its events are those of so many turns
  pub turns : (n : ℕ) × (turns (simulation run.case) n run.stop (begin (simulation run.case)) ≡ world run)

-- the later run has gone on from the earlier
abbrev pub Continues : Run → Run → Type 0
Continues earlier later = (n : ℕ) × (turns (simulation earlier.case) n later.stop (world earlier) ≡ world later)

-- e is the least pending event, and before the stop
abbrev pub IsNext : Run → Event → Type 0
IsNext run e = (later : List Event) × (run.pending ≡ e ∷ later) × (e.time < run.stop)

-- handling the least pending event, which is before the stop, would pass a counter's limit
abbrev pub IsStuck : Run → Type 0
IsStuck run = (e : Event) × IsNext run e × (is_full_at (router_after run.case run.events e.dst) e ≡ true)

-- no event of a list in ascending order is before t: the first isn't
abbrev pub NoneBefore : ℕ → List Event → Type 0
NoneBefore t [] = Unit {0}
NoneBefore t (e ∷ later) = t ≤ e.time

-- one event more is handled
abbrev pub IsNextRun : Run → Run → Type 0
IsNextRun run next = (next.case ≡ run.case) × (next.stop ≡ run.stop) × (turns (simulation run.case) 1 run.stop (world run) ≡ world next)

-- on its way to the stop the run of the case comes to an event that would pass a counter's limit
pub record GetsStuck (case : Case) (stop : ℕ) : Type 0 where
  pub run : Run
  pub own : run.case ≡ case
  pub to_stop : run.stop ≡ stop
  pub reached : Continues (opening_run case) run
  pub stuck : IsStuck run
