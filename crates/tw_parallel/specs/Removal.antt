-- Routers that are moved out of a parallel run (own).
use Rattle.std.specs.Prelude.{ℕ, ◌≡◌, ◌↔◌, ◌<◌, ◌≤◌, Bool, true, List, [], IfSome, is_some, map, option_map, vec_capacity}
use Rattle.std.specs.List.{range_with_len}
use Rattle.tw_model.specs.Case.{Case, simulation}
use Rattle.tw_model.specs.Quiet.{last_change}
use Rattle.tw_parallel.specs.declared.into_run.Removal.{Removal}
use Rattle.tw_parallel.specs.declared.into_run.RunRoom.{RunRoom}
use Rattle.tw_parallel.specs.Sim.{RetainsEvents, Sim}
use Rattle.tw_seq.specs.Run.{complete_run, router_after}
use Rattle.tw_seq.specs.Traced.{retained, trace_after}
use Rattle.tw_shard.specs.Past.{own_run}
use Rattle.tw_shard.specs.Shard.{Shard, owns, timeline}
use Rattle.tw_shard.specs.Timeline.{history}
use Rattle.tw_sim.specs.Seq.{log, rest}
use Rattle.tw_sim.specs.Simulation.{only}

-- the first so many routers of a case have left at a time of its run, and there is room for so many in all
pub record AreRemoved (case : Case) (time count some : ℕ) (x : Removal) : Type 0 where
  pub routers : x.routers.items ≡ map (router_after case (complete_run case time).events) (range_with_len 0 some)
  pub traces : x.traces.items ≡ map (trace_after case (complete_run case time).events) (range_with_len 0 some)
  pub logs : IfSome (retained x.logs) (λ lists. lists ≡ map (λ r. only (simulation case) r (complete_run case time).events) (range_with_len 0 some))
  pub router_room : count ≤ vec_capacity x.routers
  pub trace_room : count ≤ vec_capacity x.traces
  pub log_room : IfSome (option_map (λ logs. vec_capacity logs) x.logs) (λ room. count ≤ room)

-- all but the routers that a run on one thread has, where a parallel run stands, and room for these
pub record IsRoomFor (s : Sim) (room : RunRoom) : Type 0 where
  pub removal : AreRemoved s.case s.board.stop s.case.net.nodes 0 room.removal
  pub retains : (is_some room.removal.logs ≡ true) ↔ RetainsEvents s
  pub pending : room.pending.events ≡ rest (simulation s.case) s.board.stop
  pub homes : room.pending.routers ≡ s.case.net.nodes
  pub change : room.last_change ≡ last_change s.case (log (simulation s.case) s.board.stop)

-- router r may leave this shard of the case, where it stands at a time of the run
pub record MayLeave (case : Case) (time r : ℕ) (retains : Bool) (s : Shard) : Type 0 where
  pub own : owns s r ≡ true
  pub case_is : s.terms.case ≡ case
  pub retains_are : retains ≡ true → s.terms.retains ≡ true
  pub ahead : (timeline s r).ahead ≡ []
  pub run : history (timeline s r) ≡ own_run case r time
