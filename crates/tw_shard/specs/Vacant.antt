-- A worker's shard where all workers stand at one time of the run, before its routers come (own).
use Rattle.std.specs.Prelude.{ℕ, ◌≡◌, ◌+◌, ◌<◌, ◌≤◌, Bool, List, [], drop, filter, length, map, take, vec_capacity}
use Rattle.std.specs.List.{AllByRecursion}
use Rattle.tw_model.specs.Case.{Case, IsCase, simulation}
use Rattle.tw_shard.specs.Cut.{timeline_at}
use Rattle.tw_shard.specs.declared.shard.vacant.VacantShard.TheInside.{Inside}
use Rattle.tw_shard.specs.Roster.{StandOnce, StandsInList, has}
use Rattle.tw_sim.specs.declared.machine.Cancel.{Cancel}
use Rattle.tw_sim.specs.Seq.{rest}

-- a worker's shard at a time, some of whose routers have come
pub record Vacant : Type 0 where
  pub case : Case
  pub worker : ℕ
  pub workers : ℕ
  pub time : ℕ
  -- whether its routers retain their committed events, and when what an undone event has sent is taken back
  pub retains : Bool
  pub cancel : Cancel
  -- the routers that it is to have, and those of them that have not come, in their order
  pub routers : List ℕ
  pub missing : List ℕ

-- what the fields stand for
abbrev pub vacant_of : Inside → Vacant
vacant_of a = record {
  case = a.case.now;
  worker = a.worker;
  workers = a.workers;
  time = a.time;
  retains = a.retains;
  cancel = a.cancel;
  routers = a.roster.routers;
  missing = drop (length a.timelines.items) a.roster.routers;
}

-- the routers that have come stand at the time, and there is room for the others; the events that the run leaves for all of them wait
pub record IsVacant (a : Inside) : Type 0 where
  pub case : IsCase a.case.now
  pub worker : a.worker < a.workers
  pub known : (k r : ℕ) → StandsInList a.roster.routers k r → r < a.case.now.net.nodes
  pub apart : StandOnce a.roster.routers
  pub roster : a.roster.count ≡ a.case.now.net.nodes
  pub timelines : a.timelines.items ≡ map (timeline_at a.case.now a.retains a.time) (take (length a.timelines.items) a.roster.routers)
  pub rings : length a.rings.items + length a.timelines.items ≡ length a.roster.routers
  pub empty : AllByRecursion (λ ring. ring ≡ []) a.rings.items
  pub room : length a.roster.routers ≤ vec_capacity a.timelines
  pub pending : a.pending.events ≡ filter (λ e. has a.roster.routers e.dst) (rest (simulation a.case.now) a.time)
  pub waiting : a.pending.routers ≡ a.case.now.net.nodes
  pub kept : a.kept.events ≡ []
  pub keeping : a.kept.routers ≡ a.case.now.net.nodes
