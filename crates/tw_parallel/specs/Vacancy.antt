-- A parallel run at a time of the one-thread run, before its routers have come (own).
use Rattle.std.specs.Prelude.{ℕ, ◌≡◌, ◌↔◌, ◌-◌, ◌<◌, ◌≤◌, ◌==◌, Bool, true, List, [], Some, filter, length, replicate, slice_get, slice_index_or, vec_capacity}
use Rattle.std.specs.List.{AllByRecursion, range_with_len}
use Rattle.std.specs.Option.{unwrap_or}
use Rattle.tw_exchange.specs.Board.{opening_owned, who, workers}
use Rattle.tw_model.specs.Case.{Case, IsCase, no_case}
use Rattle.tw_model.specs.declared.limits.TheConstants.{LATEST}
use Rattle.tw_parallel.specs.declared.vacancy.Vacancy.{Vacancy}
use Rattle.tw_parallel.specs.Hands.{IsEmptyHand}
use Rattle.tw_parallel.specs.Settled.{IsSettled}
use Rattle.tw_parallel.specs.Sim.{IsSim, RetainsEvents, Sim, cancels_of}
use Rattle.tw_shard.specs.Cut.{IsShardAt}
use Rattle.tw_shard.specs.Shard.{Shard}
use Rattle.tw_shard.specs.Vacant.{Vacant}
use Rattle.tw_sim.specs.declared.machine.Cancel.{Cancel}
use Rattle.tw_sim.specs.declared.machine.Cancel.TheVariants.{Aggressive}

-- where workers take over a run: at which time, who has which router, and what is kept and taken back when
pub record Start : Type 0 where
  pub case : Case
  pub owners : List ℕ
  pub workers : ℕ
  pub time : ℕ
  pub retains : Bool
  pub cancel : Cancel

-- the worker of a router
abbrev pub owner_in : Start → ℕ → ℕ
owner_in s r = slice_index_or s.owners r s.workers

-- what stands where there is none
abbrev pub no_vacant : Vacant
no_vacant = record { case = no_case; worker = 0; workers = 0; time = 0; retains = true; cancel = Aggressive; routers = []; missing = [] }

-- worker w's shard, whose routers from this one on have not come
abbrev pub vacant_from : Start → ℕ → ℕ → Vacant
vacant_from s from w = record {
  case = s.case;
  worker = w;
  workers = s.workers;
  time = s.time;
  retains = s.retains;
  cancel = s.cancel;
  routers = filter (λ r. owner_in s r == w) (range_with_len 0 s.case.net.nodes);
  missing = filter (λ r. owner_in s r == w) (range_with_len from (s.case.net.nodes - from));
}

-- those of all workers
pub record AreVacant (s : Start) (from : ℕ) (shards : List Vacant) : Type 0 where
  pub count : length shards ≡ s.workers
  pub each : (w : ℕ) → w < s.workers → slice_index_or shards w no_vacant ≡ vacant_from s from w

-- where workers take over the run whose routers these shards wait for, by the worker of each router
abbrev pub start_from : List ℕ → List Vacant → Start
start_from owners shards =
    let first = slice_index_or shards 0 no_vacant in
    record { case = first.case; owners = owners; workers = first.workers; time = first.time; retains = first.retains; cancel = first.cancel }

abbrev pub start_of : Vacancy → Start
start_of v = start_from (unwrap_or v.exchange.owners []) v.vacant.items

-- a shard all of whose routers have come
abbrev pub IsFilled : Vacant → Shard → Type 0
IsFilled v s = (who : ℕ → ℕ) → v.routers ≡ filter (λ r. who r == v.worker) (range_with_len 0 v.case.net.nodes) → IsShardAt v.case who v.time v.worker v.retains v.cancel s

-- there is all but the routers, and room for these
pub record IsVacancy (v : Vacancy) : Type 0 where
  pub case : IsCase v.case.now
  pub whose : v.case.now ≡ (start_of v).case
  pub board : v.exchange ≡ opening_owned (start_of v).owners (start_of v).workers (start_of v).time (start_of v).time
  pub vacant : AreVacant (start_of v) 0 v.vacant.items
  pub shards : v.shards.items ≡ []
  pub room : (start_of v).workers ≤ vec_capacity v.shards
  pub most : (start_of v).time ≤ LATEST
  pub hands : length v.hands.items ≡ (start_of v).workers
  pub empty : AllByRecursion IsEmptyHand v.hands.items

-- a parallel run that stands where its workers have taken over
pub record IsTakenOver (start : Start) (s : Sim) : Type 0 where
  pub sim : IsSim s
  pub settled : IsSettled s
  pub case : s.case ≡ start.case
  pub stop : s.board.stop ≡ start.time
  pub workers_are : workers s.board ≡ start.workers
  -- each router is its worker's
  pub owners : (r : ℕ) → r < s.case.net.nodes → slice_get start.owners r ≡ Some (who s.board r)
  pub retains : (start.retains ≡ true) ↔ RetainsEvents s
  pub cancels : cancels_of s ≡ replicate start.workers start.cancel
