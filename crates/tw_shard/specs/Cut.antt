-- A worker's routers where all workers stand at one time of the one-thread run, as they do at a stop that is reached (own).
use Rattle.std.specs.Prelude.{ℕ, ◌≡◌, ◌<◌, ◌==◌, ◌&&◌, Bool, true, not, List, [], filter, nat_lt, reverse, slice_get}
use Rattle.tw_core.specs.declared.limits.TheConstants.{OPENING_ROOM}
use Rattle.tw_event.specs.declared.event.Event.{Event}
use Rattle.tw_model.specs.Case.{Case, simulation}
use Rattle.tw_shard.specs.declared.router_at.RouterAt.{RouterAt}
use Rattle.tw_shard.specs.Past.{own_run}
use Rattle.tw_shard.specs.Shard.{Shard, owns, timeline}
use Rattle.tw_shard.specs.Shards.{shard_for}
use Rattle.tw_shard.specs.Timeline.{Timeline, history, last_change_at, router_of}
use Rattle.tw_sim.specs.declared.machine.Cancel.{Cancel}
use Rattle.tw_sim.specs.Seq.{rest}

-- router r of a case that has handled its events of the one-thread run before a time: all are committed to that time
abbrev pub timeline_at : Case → Bool → ℕ → ℕ → Timeline
timeline_at case retains time r = record {
  net = case.net;
  node = r;
  ahead = [];
  past = own_run case r time;
  done = time;
  room = OPENING_ROOM;
  case = case;
  retains = retains;
}

-- the events for the routers of worker k that wait once the one-thread run has handled all before a time, by the worker of each router
abbrev pub left_for : Case → (ℕ → ℕ) → ℕ → ℕ → List Event
left_for case who time k = filter (λ e. who e.dst == k) (rest (simulation case) time)

-- worker k's shard where all workers stand at a time of the run, by the worker of each router; its routers retain their committed events, or
-- let them go, and it takes back what undone events have sent as this says
pub record IsShardAt (case : Case) (who : ℕ → ℕ) (time k : ℕ) (retains : Bool) (cancel : Cancel) (s : Shard) : Type 0 where
  -- it has the worker's routers of the case
  pub owns_are : (r : ℕ) → owns s r ≡ (nat_lt r case.net.nodes && (who r == k))
  -- which have handled their events of the run before that time
  pub routers : (r : ℕ) → owns s r ≡ true → timeline s r ≡ timeline_at case retains time r
  -- and the events that the run leaves for them wait
  pub pending : s.pending ≡ left_for case who time k
  -- nothing is kept, on its way or held
  pub kept : s.kept ≡ []
  pub outgoing : s.outgoing ≡ []
  pub held : s.held ≡ []
  pub bound : s.bound ≡ time
  pub case_is : s.terms.case ≡ case
  pub worker : s.terms.worker ≡ k
  pub retains_are : s.terms.retains ≡ retains
  pub cancel_is : s.terms.cancel ≡ cancel

-- a router, and what is told of its events, are those of a timeline
pub record IsRouterOf (t : Timeline) (x : RouterAt) : Type 0 where
  -- it knows what its history leaves it
  pub router : x.router ≡ router_of t
  -- where it retains its events, these are told, the oldest first
  pub events : t.retains ≡ true → x.events.items ≡ reverse (history t)
  -- the newest of them, if there is one
  pub newest : x.newest ≡ slice_get (history t) 0
  -- and the time of the last one that changed its path
  pub change : x.last_change ≡ last_change_at t.net t.node (history t)

-- router r has left s, which is t now; all else stays, and so does what waits for r
pub record IsGone (r : ℕ) (s t : Shard) : Type 0 where
  pub routers : (q : ℕ) → owns t q ≡ (owns s q && not (q == r))
  pub timelines : (q : ℕ) → owns t q ≡ true → timeline t q ≡ timeline s q
  pub rest : t ≡ record s { routers = t.routers; timelines = t.timelines }

-- no router of the case, each at the shard that has it, has an event that it can undo
abbrev pub NoneAhead : Case → List Shard → Type 0
NoneAhead case ss = (r : ℕ) → r < case.net.nodes → (timeline (shard_for ss r) r).ahead ≡ []
