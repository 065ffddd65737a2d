-- A parallel run between two runs of its workers: what they share, and what each of them has (own).
use Rattle.std.specs.Prelude.{ℕ, ◌≡◌, ◌<◌, ◌≤◌, Bool, true, false, List, [], map}
use Rattle.std.specs.List.{AllByRecursion, flat_map, range_with_len}
use Rattle.tw_core.specs.Machine.{Core, committed}
use Rattle.tw_event.specs.declared.event.Event.{Event}
use Rattle.tw_event.specs.Order.{event_before}
use Rattle.tw_exchange.specs.Board.{Board, who, workers}
use Rattle.tw_model.specs.Case.{Case, simulation}
use Rattle.tw_model.specs.declared.limits.TheConstants.{LATEST}
use Rattle.tw_rule.specs.Rule.{assembled}
use Rattle.tw_shard.specs.Shard.{owns}
use Rattle.tw_sim.specs.declared.machine.Cancel.{Cancel}
use Rattle.tw_sim.specs.Ordered.{insert_all}
use Rattle.tw_table.specs.Shares.{IsRuled, Share, board_of, place_of}

pub record Sim : Type 0 where
  pub case : Case
  -- the exchange
  pub board : Board
  -- what each worker has, by rising worker
  pub shares : List Share

-- all of it as one machine
abbrev pub machine : Sim → Core Event
machine s = assembled (board_of s.board) (map place_of s.shares)

-- the routers of a worker are routers of the case
abbrev pub AreOf : Case → Share → Type 0
AreOf case t = (r : ℕ) → owns t.shard r ≡ true → r < case.net.nodes

-- the routers of all shares retain their events or none does, and what undone events have sent is taken back at the same time
pub record AreSetAlike (shares : List Share) : Type 0 where
  pub retains : Bool
  pub cancel : Cancel
  pub each : AllByRecursion (λ t. (t.shard.terms.retains ≡ retains) × (t.shard.terms.cancel ≡ cancel)) shares

-- it keeps the rule
pub record IsSim (s : Sim) : Type 0 where
  -- there are workers
  pub some : 0 < workers s.board
  -- each has its share, by rising worker
  pub order : map (λ t. t.shard.terms.worker) s.shares ≡ range_with_len 0 (workers s.board)
  pub ruled : IsRuled s.case s.board s.shares
  -- of routers of the case alone
  pub known : AllByRecursion (AreOf s.case) s.shares
  -- whose routers retain their events alike, and take back at the same time what undone events have sent
  pub alike : AreSetAlike s.shares
  -- the stop is one that a case may have
  pub stop : s.board.stop ≤ LATEST

-- all routers retain their committed events
abbrev pub RetainsEvents : Sim → Type 0
RetainsEvents s = AllByRecursion (λ t. t.shard.terms.retains ≡ true) s.shares

-- when each worker takes back what undone events have sent
abbrev pub cancels_of : Sim → List Cancel
cancels_of s = map (λ t. t.shard.terms.cancel) s.shares

-- the committed events of all routers, in the order of events
abbrev pub committed_events : Sim → List Event
committed_events s = insert_all event_before (flat_map (λ r. committed (simulation s.case) (machine s) r) (range_with_len 0 s.case.net.nodes)) []

-- where a run goes on to another stop
abbrev pub reopened : ℕ → Sim → Sim
reopened stop s = record s { board = record s.board { stop = stop; halted = false } }

-- the run later: of the same case, with as many workers, whose routers retain their events if they did and take back what undone events
-- have sent as before, its bound not fallen
pub record GoesOn (s t : Sim) : Type 0 where
  pub case : t.case ≡ s.case
  pub workers : workers t.board ≡ workers s.board
  pub retains : RetainsEvents s → RetainsEvents t
  pub cancels : cancels_of t ≡ cancels_of s
  pub bound : s.board.bound ≤ t.board.bound

-- and each router has the worker that it had
abbrev pub HasSameOwners : Sim → Sim → Type 0
HasSameOwners s t = (r : ℕ) → r < s.case.net.nodes → who t.board r ≡ who s.board r
