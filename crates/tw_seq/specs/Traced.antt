-- What a run notes of each router while it goes on (own).
use Rattle.std.specs.Prelude.{ℕ, ◌≡◌, ◌<◌, Bool, List, [], ◌∷◌, ◌++◌, Option, None, Some, IfSome, if◌then◌else◌, is_some, map, option_map, reverse, slice_get, slice_index_or, slice_set, vec_capacity, vec_len}
use Rattle.std.specs.List.{range_with_len}
use Rattle.std.specs.Option.{IsSomeAnd}
use Rattle.std.specs.declared.vec.Vec.{Vec}
use Rattle.tw_event.specs.declared.event.Event.{Event}
use Rattle.tw_model.specs.Case.{Case, simulation}
use Rattle.tw_model.specs.Quiet.{last_change}
use Rattle.tw_seq.specs.declared.traced_run.RouterTrace.{RouterTrace}
use Rattle.tw_seq.specs.declared.traced_run.TracedRun.TheInside.{Inside}
use Rattle.tw_seq.specs.Run.{IsBegun, Run}
use Rattle.tw_sim.specs.Simulation.{only}

-- a run, and whether it retains each router's events
pub record Traced : Type 0 where
  pub run : Run
  pub retains : Bool

-- what router r has handled of these events, the first of them first; its newest event first
abbrev pub handled_by : Case → List Event → ℕ → List Event
handled_by case events r = only (simulation case) r (reverse events)

-- the newest event of router r, and the time of its last event that changed its path
abbrev pub trace_after : Case → List Event → ℕ → RouterTrace
trace_after case events r = record {
  newest = slice_get (handled_by case events r) 0;
  change = last_change case (handled_by case events r);
}

-- that of a router that has handled nothing
abbrev pub no_trace : RouterTrace
no_trace = record { newest = None; change = 0 }

-- the trace once the router has handled e too
abbrev pub noted : RouterTrace → Event → Bool → RouterTrace
noted trace e changed = record { newest = Some e; change = if changed then e.time else trace.change }

-- those of every router
abbrev pub traces_after : Case → List Event → List RouterTrace
traces_after case events = map (trace_after case events) (range_with_len 0 case.net.nodes)

-- the events of every router, the oldest first
abbrev pub logs_after : Case → List Event → List (List Event)
logs_after case events = map (λ r. only (simulation case) r events) (range_with_len 0 case.net.nodes)

-- the lists in vectors
abbrev pub lists_of : {Z : Type 0} → List (Vec Event Z) → List (List Event)
lists_of logs = map (λ log. log.items) logs

-- the lists that are retained, if any are
abbrev pub retained : {Y Z : Type 0} → Option (Vec (Vec Event Z) Y) → Option (List (List Event))
retained logs = option_map (λ logs. lists_of logs.items) logs

-- one more at the end of a router's list
abbrev pub push_at : List (List Event) → Event → List (List Event)
push_at lists e = slice_set lists e.dst (slice_index_or lists e.dst [] ++ e ∷ [])

-- router r has a list, with room for one more
abbrev pub HasRoom : {Y Z : Type 0} → ℕ → Vec (Vec Event Z) Y → Type 0
HasRoom r logs = IsSomeAnd (slice_get logs.items r) (λ log. vec_len log < vec_capacity log)

-- the run that the fields stand for
abbrev pub traced_run : Inside → Traced
traced_run a = record { run = a.run; retains = is_some a.logs }

-- traces and events are those of what the run has handled
pub record IsTraced (a : Inside) : Type 0 where
  -- it is a prefix of the sequential run
  pub begun : IsBegun a.run
  pub traces : a.traces.items ≡ traces_after a.run.case a.run.events
  pub logs : IfSome a.logs (λ logs. lists_of logs.items ≡ logs_after a.run.case a.run.events)
