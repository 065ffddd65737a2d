-- What the fields of a run on one thread say, and what holds of them (own).
use Rattle.std.specs.Prelude.{ℕ, ◌≡◌, ◌≤◌, ◌+◌, List, [], ◌∷◌, reverse}
use Rattle.tw_event.specs.declared.event.Event.{Event}
use Rattle.tw_model.specs.Case.{Case, simulation}
use Rattle.tw_model.specs.declared.limits.TheConstants.{LATEST}
use Rattle.tw_model.specs.Quiet.{last_change}
use Rattle.tw_model.specs.State.{Router}
use Rattle.tw_sim.specs.Seq.{World, begin, turns}
use Rattle.tw_seq.specs.declared.one_thread.OneThread.TheInside.{Inside}
use Rattle.tw_seq.specs.Run.{IsBegun, Run, routers_after}

-- how many events the routers have handled
abbrev pub handled_count : List Router → ℕ
handled_count [] = 0
handled_count (r ∷ routers) = r.state.counters.handled + handled_count routers

-- the sequential run after so many events
abbrev pub world_after : Case → ℕ → World Event
world_after case n = turns (simulation case) n LATEST (begin (simulation case))

-- the run that the fields stand for: it has handled as many events as its routers have counted
abbrev pub run_of : Inside → Run
run_of a = record {
  case = a.case.now;
  stop = a.stop;
  events = reverse (world_after a.case.now (handled_count a.routers.items)).log;
  pending = a.pending.events;
}

-- the routers, the pending events and the last change are those after the events
pub record IsThread (a : Inside) : Type 0 where
  -- the events are those of the sequential run
  pub begun : IsBegun (run_of a)
  -- the pending events are those after as many events
  pub waiting : a.pending.events ≡ (world_after a.case.now (handled_count a.routers.items)).rest
  -- the stop is within the limit
  pub stop : a.stop ≤ LATEST
  -- each router is as the events left it
  pub routers : a.routers.items ≡ routers_after a.case.now (run_of a).events
  -- pending events are for routers of the case
  pub homes : a.pending.routers ≡ a.case.now.net.nodes
  -- the time of the last change is that of the events
  pub change : a.last_change ≡ last_change a.case.now (reverse (run_of a).events)
  -- no message waits to be put among the pending events
  pub sent : a.sends.items ≡ []
