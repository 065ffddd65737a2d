-- The committed events of a router, which are kept or let go (own).
use Rattle.std.specs.Prelude.{ℕ, ◌≡◌, Bool, List, reverse, slice_get, if◌then◌else◌}
use Rattle.tw_event.specs.declared.event.Event.{Event}
use Rattle.tw_model.specs.Case.{Case, simulation}
use Rattle.tw_shard.specs.declared.past.Past.TheInside.{Inside}
use Rattle.tw_sim.specs.Seq.{log}
use Rattle.tw_sim.specs.Simulation.{only}

-- the committed events of a router of a case
pub record Past : Type 0 where
  pub case : Case
  pub node : ℕ
  -- whether each of them can still be read
  pub retains : Bool
  -- the newest first
  pub events : List Event
  -- the bound at the latest commit
  pub done : ℕ

-- what router r of a case handles before a time in the one-thread run, the newest event first
abbrev pub own_run : Case → ℕ → ℕ → List Event
own_run case r time = let m = simulation case in only m r (log m time)

-- the committed events that the fields stand for: those that were let go are the one-thread run's
abbrev pub past_of : Inside → Past
past_of a = record {
  case = a.case.now;
  node = a.node;
  retains = a.retains;
  events = if a.retains then reverse a.events.items else own_run a.case.now a.node a.done;
  done = a.done;
}

-- the newest of them stays
abbrev pub IsPast : Inside → Type 0
IsPast a = a.last ≡ slice_get (past_of a).events 0
