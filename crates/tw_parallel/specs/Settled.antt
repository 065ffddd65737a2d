-- A parallel run that is over, and what it leaves (own).
use Rattle.std.specs.Prelude.{ℕ, ◌≡◌, ◌<◌, ◌-◌, Bool, List, [], length, map, reverse, if◌then◌else◌}
use Rattle.std.specs.List.{range_with_len}
use Rattle.tw_core.specs.Machine.{committed, count_ahead}
use Rattle.tw_event.specs.declared.event.Event.{Event}
use Rattle.tw_model.specs.Case.{Case, simulation}
use Rattle.tw_model.specs.State.{State}
use Rattle.tw_parallel.specs.declared.outcome.NotSettled.{NotSettled}
use Rattle.tw_parallel.specs.Sim.{Sim, machine}
use Rattle.tw_shard.specs.Timeline.{last_change_at}
use Rattle.tw_sim.specs.Seq.{at, log}
use Rattle.tw_sim.specs.Simulation.{state}

-- the workers have come to the stop
pub record IsSettled (s : Sim) : Type 0 where
  pub bound : (machine s).bound ≡ (machine s).stop
  -- no message is on its way
  pub flight : (machine s).flight ≡ []
  -- nothing is held
  pub held : (machine s).held ≡ []
  -- and every handled event is committed
  pub committed : (r : ℕ) → r < s.case.net.nodes → committed (simulation s.case) (machine s) r ≡ (machine s).history r

-- no router has an event that it could still undo
abbrev pub HasNoRecords : Sim → Type 0
HasNoRecords s = (r : ℕ) → r < s.case.net.nodes → count_ahead (machine s) r ≡ 0

-- the one value of `NotSettled`
abbrev pub not_settled : NotSettled
not_settled = record {}

-- how many events a router has handled that are not committed
abbrev pub ahead_of : Sim → ℕ → ℕ
ahead_of s r = length ((machine s).history r) - length (committed (simulation s.case) (machine s) r)

-- the time of the last event that changed router r's path, or 0
abbrev pub change_of : Sim → ℕ → ℕ
change_of s r = last_change_at s.case.net r ((machine s).history r)

-- what each router knows
abbrev pub states_of : Sim → List State
states_of s = map (λ r. state (simulation s.case) r ((machine s).history r)) (range_with_len 0 s.case.net.nodes)

-- and at a stop of the one-thread run
abbrev pub states_at : Case → ℕ → List State
states_at case stop = map (at (simulation case) stop) (range_with_len 0 case.net.nodes)

-- the events of the run to a stop, the first one first, or none
abbrev pub logged : Bool → Case → ℕ → List Event
logged with_log case stop = if with_log then reverse (log (simulation case) stop) else []
