-- All shards of a case, by rising worker, and what is read of its routers, each at the shard that has it (own).
use Rattle.std.specs.Prelude.{ℕ, ◌≡◌, ◌<◌, ◌-◌, true, List, [], ◌∷◌, length, map, max, Option, reverse, slice_index_or, take}
use Rattle.std.specs.List.{flat_map, position, range_with_len}
use Rattle.std.specs.Option.{unwrap_or}
use Rattle.tw_core.specs.Machine.{committed}
use Rattle.tw_core.specs.Parts.{total}
use Rattle.tw_event.specs.declared.event.Event.{Event}
use Rattle.tw_event.specs.Order.{event_before}
use Rattle.tw_model.specs.Case.{Case, simulation}
use Rattle.tw_model.specs.declared.outcome.RouterEnd.{RouterEnd}
use Rattle.tw_model.specs.Summary.{end_of}
use Rattle.tw_shard.specs.Shard.{Shard, no_shard, owns, shard_core}
use Rattle.tw_shard.specs.Timeline.{last_change_at}
use Rattle.tw_sim.specs.Ordered.{insert_all}
use Rattle.tw_sim.specs.Simulation.{IsFalling, state}

-- where the first shard stands that has router r
abbrev pub place_for : List Shard → ℕ → Option ℕ
place_for ss r = position (λ s. owns s r) ss

-- the shard that has router r, and the first one where none has it
abbrev pub shard_for : List Shard → ℕ → Shard
shard_for ss r = slice_index_or ss (unwrap_or (place_for ss r) 0) no_shard

-- what router r has handled and not undone, the newest event first
abbrev pub history_in : List Shard → ℕ → List Event
history_in ss r = (shard_core 0 (shard_for ss r)).history r

-- those of them that are committed
abbrev pub committed_in : Case → List Shard → ℕ → List Event
committed_in case ss r = committed (simulation case) (shard_core 0 (shard_for ss r)) r

-- each router of the case is at a shard of it
pub record HaveAll (case : Case) (ss : List Shard) : Type 0 where
  pub some : 0 < length ss
  pub cases : (r : ℕ) → r < case.net.nodes → (shard_for ss r).terms.case ≡ case
  pub own : (r : ℕ) → r < case.net.nodes → owns (shard_for ss r) r ≡ true

-- the routers retain their committed events, and their histories are in order
pub record RetainAll (case : Case) (ss : List Shard) : Type 0 where
  pub retains : (r : ℕ) → r < case.net.nodes → (shard_for ss r).terms.retains ≡ true
  pub falling : (r : ℕ) → IsFalling (simulation case) (history_in ss r)

-- the committed events of all routers, in the order of events
abbrev pub committed_of_all : Case → List Shard → List Event
committed_of_all case ss = insert_all event_before (flat_map (λ r. committed_in case ss r) (range_with_len 0 case.net.nodes)) []

-- as many of a router's oldest events as are committed, the oldest first
abbrev pub oldest_in : Case → List Shard → ℕ → List Event
oldest_in case ss r = take (length (committed_in case ss r)) (reverse (history_in ss r))

-- how many events of a router are handled and not committed
abbrev pub ahead_in : Case → List Shard → ℕ → ℕ
ahead_in case ss r = length (history_in ss r) - length (committed_in case ss r)

-- and of all routers together
abbrev pub ahead_of_all : Case → List Shard → ℕ
ahead_of_all case ss = total (λ r. ahead_in case ss r) (range_with_len 0 case.net.nodes)

-- how each router stands
abbrev pub ends_of_all : Case → List Shard → List RouterEnd
ends_of_all case ss = map (λ r. end_of (state (simulation case) r (history_in ss r))) (range_with_len 0 case.net.nodes)

-- the greatest of what is read of these routers, or 0
abbrev pub greatest : (ℕ → ℕ) → List ℕ → ℕ
greatest f [] = 0
greatest f (r ∷ rs) = max (f r) (greatest f rs)

-- the time of the last event that changed a router's path, or 0
abbrev pub change_of_all : Case → List Shard → ℕ
change_of_all case ss = greatest (λ r. last_change_at case.net r (history_in ss r)) (range_with_len 0 case.net.nodes)

-- the events that wait at all of them, in the order of events
abbrev pub pending_of_all : List Shard → List Event
pending_of_all ss = insert_all event_before (flat_map (λ s. s.pending) ss) []
