-- All routers of a case, dealt out to workers, as one machine (after Jefferson, Virtual Time, 1985).
use Rattle.std.specs.Prelude.{ℕ, zero, suc, ◌≡◌, ◌<◌, ◌≤◌, ◌==◌, ◌&&◌, true, List, [], length, nat_lt, slice_get, slice_index_or, take, Option, Some, None}
use Rattle.std.specs.List.{AllByRecursion, flat_map}
use Rattle.tw_core.specs.Good.{IsGood}
use Rattle.tw_core.specs.Machine.{AreCounted, Core, count_ahead}
use Rattle.tw_core.specs.Parts.{IsOwn}
use Rattle.tw_core.specs.Steps.{from, next}
use Rattle.tw_event.specs.declared.event.Event.{Event}
use Rattle.tw_event.specs.Order.{event_before, event_same}
use Rattle.tw_model.specs.Case.{Case, IsCase, simulation}
use Rattle.tw_model.specs.declared.limits.TheConstants.{LATEST}
use Rattle.tw_shard.specs.Shard.{Shard, shard_core}
pub use Rattle.tw_shard.specs.Shard.{no_shard}
use Rattle.tw_shard.specs.Shard as share
use Rattle.tw_sim.specs.declared.machine.Cancel.{Cancel}
use Rattle.tw_sim.specs.declared.machine.Signed.{Signed}
use Rattle.tw_sim.specs.declared.machine.Step.{Step}
use Rattle.tw_sim.specs.declared.machine.Step.TheVariants.{Handle, Undo, Deliver, Bound, Commit, Release}
use Rattle.tw_sim.specs.Ordered.{insert_all}
use Rattle.tw_sim.specs.Owners.{owner}
use Rattle.tw_sim.specs.Rising.{IsRising}
use Rattle.tw_sim.specs.Simulation.{Simulation}

pub record Warp : Type 0 where
  pub case : Case
  -- the routers of each worker, by rising worker
  pub shards : List Shard
  -- the messages on their way, in the order sent
  pub flight : List (Signed Event)
  pub bound : ℕ
  pub stop : ℕ
  -- when what an undone event has sent is taken back
  pub cancel : Cancel

-- the shard of this worker
abbrev pub shard_at : Warp → ℕ → Shard
shard_at w k = slice_index_or w.shards k no_shard

-- which worker has router r
abbrev pub worker_with : Warp → ℕ → ℕ
worker_with w r = owner (length w.shards) r

-- the machine: what waits and what is held, in order
abbrev pub warp_core : Warp → Core Event
warp_core w = record {
  history = λ r. (shard_core w.stop (shard_at w (worker_with w r))).history r;
  pending = insert_all event_before (flat_map (λ s. s.pending) w.shards) [];
  kept = insert_all event_before (flat_map (λ s. s.kept) w.shards) [];
  flight = w.flight;
  held = insert_all event_before (flat_map (λ s. s.held) w.shards) [];
  done = λ r. (shard_core w.stop (shard_at w (worker_with w r))).done r;
  past = λ r. (shard_core w.stop (shard_at w (worker_with w r))).past r;
  room = λ r. (shard_core w.stop (shard_at w (worker_with w r))).room r;
  bound = w.bound;
  stop = w.stop;
  cancel = w.cancel;
}

-- a shard as this worker's of the machine
pub record IsShare (w : Warp) (k : ℕ) (s : Shard) : Type 0 where
  -- of the same case, and worker k's
  pub case : s.terms.case ≡ w.case
  pub worker : s.terms.worker ≡ k
  -- it has the routers of the case that are this worker's
  pub routers : (r : ℕ) → share.owns s r ≡ (nat_lt r w.case.net.nodes && (worker_with w r == k))
  -- with the bound of all
  pub bound : s.bound ≡ w.bound
  -- its routers retain their committed events
  pub retains : s.terms.retains ≡ true
  -- what undone events have sent is taken back when it is for all
  pub cancel : s.terms.cancel ≡ w.cancel
  -- what its routers have sent is in flight
  pub outgoing : s.outgoing ≡ []
  -- what is held is in order
  pub held : IsRising event_before event_same s.held
  -- what waits there is for its routers, and what is held was sent by them
  pub own : IsOwn (simulation w.case) (λ r. worker_with w r == k) (shard_core w.stop s)

-- the shards are the workers', and together they are a good state
pub record IsWarp (w : Warp) : Type 0 where
  pub case : IsCase w.case
  pub workers : 0 < length w.shards
  pub shares : (k : ℕ) → k < length w.shards → IsShare w k (shard_at w k)
  pub good : IsGood (simulation w.case) (warp_core w)
  -- as many events of each router are counted as committed as are committed, so that it has room for just so many others as it is told
  pub counted : AreCounted (simulation w.case) (warp_core w)
  pub stop : w.stop ≤ LATEST

-- a shard that sends behind these messages
abbrev pub behind : Shard → List (Signed Event) → Shard
behind s messages = record s { outgoing = messages }

-- worker k's shard, behind all messages on their way
abbrev pub lent : Warp → ℕ → Shard
lent w k = behind (shard_at w k) w.flight

-- the later machine has the same case, workers and stop, and takes back what undone events have sent at the same time
pub record HasSameSettings (v w : Warp) : Type 0 where
  pub case : w.case ≡ v.case
  pub workers : length w.shards ≡ length v.shards
  pub stop : w.stop ≡ v.stop
  pub cancel : w.cancel ≡ v.cancel

-- the message at this place in flight, where places count from 1
abbrev pub message_at : {E : Type 0} → List (Signed E) → ℕ → Option (Signed E)
message_at flight zero = None
message_at flight (suc k) = slice_get flight k

module _ {S E : Type 0} (m : Simulation S E) where
  -- the state after n undo steps at router r, those that are refused among them
  abbrev pub after_undos : ℕ → ℕ → Core E → Core E
  after_undos zero r C = C
  after_undos (suc n) r C = next m (after_undos n r C) (Undo r)

  -- what is left of a delivery that memory was refused to: the message is at its place still, and some undo steps of its receiver stand
  pub record IsCutShort (place : ℕ) (C D : Core E) : Type 0 where
    pub message : Signed E
    pub count : ℕ
    pub there : message_at C.flight place ≡ Some message
    pub stays : message_at D.flight place ≡ Some message
    pub undone : D ≡ after_undos count (m.dst message.event) C

  -- what a step leaves that memory was refused to: nothing has changed, but where a message was delivered. The bound takes no memory
  abbrev pub IsInterrupted : Step → Core E → Core E → Type 0
  IsInterrupted (Handle r) C D = D ≡ C
  IsInterrupted (Undo r) C D = D ≡ C
  IsInterrupted (Deliver place) C D = IsCutShort place C D
  IsInterrupted Bound C D = ⊥
  IsInterrupted (Commit r) C D = D ≡ C
  IsInterrupted (Release r) C D = D ≡ C

  -- the events that router r has handled and not committed, the newest first
  abbrev pub uncommitted : Core E → ℕ → List E
  uncommitted C r = take (count_ahead C r) (C.history r)

  -- a step that takes no memory: the bound, a commit that commits nothing more, and a release where nothing is held for the router
  abbrev pub TakesNone : Step → Core E → Type 0
  TakesNone (Handle r) C = ⊥
  TakesNone (Undo r) C = ⊥
  TakesNone (Deliver place) C = ⊥
  TakesNone Bound C = Unit {0}
  TakesNone (Commit r) C = AllByRecursion (λ e. C.bound ≤ m.time e) (uncommitted C r)
  TakesNone (Release r) C = from m r C.held ≡ []
