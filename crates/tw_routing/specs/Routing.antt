-- The routing protocol as a model: its processes are the routers of a case (Griffin, Shepherd, Wilfong 2002; as a model own).
use Rattle.std.specs.Prelude.{ℕ, ◌≡◌}
use Rattle.tw_event.specs.declared.event.Event.{Event}
use Rattle.tw_handlers.specs.Record.{IsHandled}
use Rattle.tw_event.specs.declared.record.UndoRecord.{UndoRecord}
use Rattle.tw_model.specs.Case.{Case, simulation}
use Rattle.tw_model.specs.Effect.{effect}
use Rattle.tw_model.specs.State.{Router, State}
use Rattle.tw_model.specs.declared.limits.TheConstants.{LATEST}
use Rattle.tw_process.specs.Behaviour.{Behaviour}

-- what the routers of a case do: what its simulation says; the least delay of a link is 1 tick
abbrev pub routing_behaviour : Case → Behaviour State Event
routing_behaviour case = record {
  processes = (simulation case).routers;
  start = (simulation case).start;
  after = (simulation case).after;
  sends = (simulation case).sends;
  opening = (simulation case).opening;
  most = (simulation case).most;
  suits = (simulation case).suits;
  number = (simulation case).number;
  limit = (simulation case).limit;
  full = (simulation case).full;
  lookahead = 1;
  latest = LATEST;
}

-- it is router r of the case
pub record IsRouterOf (case : Case) (r : ℕ) (router : Router) : Type 0 where
  pub net : router.net ≡ case.net
  pub node : router.node ≡ r

-- handling the event, where its router knows this, gives this record
abbrev pub IsNoted : Case → State → Event → UndoRecord → Type 0
IsNoted case before e note = IsHandled case.net e.dst before e note (effect case.net e.dst before e).state
