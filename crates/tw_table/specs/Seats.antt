-- What contracts say of a table and of its seats (own).
use Rattle.std.specs.Prelude.{ℕ, ◌≡◌, Bool, List, Option, slice_index_or}
use Rattle.crossbeam_queue.specs.Passes.{IsPassOf, view}
use Rattle.tw_exchange.specs.Board.{Board}
use Rattle.tw_exchange.specs.Owners.{list_of}
use Rattle.tw_table.specs.Shares.{Share, no_share}
use Rattle.tw_table.specs.Views.{taken}
use Rattle.tw_table.specs.declared.seat.Held.{Held}
use Rattle.tw_table.specs.declared.seat.Seat.{Seat}
use Rattle.tw_table.specs.declared.table.Table.{Table}

-- how many workers a table has
abbrev pub workers_at : Table → ℕ
workers_at t = t.workers

-- the worker of each router, where a list says it
abbrev pub owners_on : Table → Option (List ℕ)
owners_on t = list_of t.owners

-- the stop of its exchange
abbrev pub stop_on : Table → ℕ
stop_on t = t.stop

-- ---- a seat that waits

-- the seat is one of this table
pub record IsSeatOf (t : Table) (s : Seat) : Type 0 where
  pub pass : IsPassOf t.queue s.pass
  pub workers : (view s.pass).workers ≡ t.workers
  pub owners : (view s.pass).owners ≡ owners_on t
  pub stop : (view s.pass).stop ≡ t.stop

-- its worker's share: the shard and the hand given last
abbrev pub share_at : Seat → Share
share_at s = slice_index_or (view s.pass).shares 0 no_share

-- the bound that it saw last
abbrev pub bound_at : Seat → ℕ
bound_at s = s.bound

-- whether the exchange told all workers to take no further turn when it was given back last
abbrev pub halted_at : Seat → Bool
halted_at s = s.halted

-- whether it had been so the time before, so that the worker knew it when it took the exchange
abbrev pub was_halted_at : Seat → Bool
was_halted_at s = (view s.pass).was_halted

-- what its worker had reported when it gave the exchange back last
abbrev pub report_at : Seat → Option ℕ
report_at s = (view s.pass).report

-- the stop of the exchange
abbrev pub stop_at : Seat → ℕ
stop_at s = (view s.pass).stop

-- ---- a seat with the exchange

-- it was taken from this table
pub record IsHeldOf (t : Table) (h : Held) : Type 0 where
  pub pass : IsPassOf t.queue h.pass
  pub workers : (view h.pass).workers ≡ t.workers
  pub owners : (view h.pass).owners ≡ owners_on t
  pub stop : (view h.pass).stop ≡ t.stop

-- its worker's share, as given last
abbrev pub share_of : Held → Share
share_of h = slice_index_or (view h.pass).shares 0 no_share

-- the stop that it knows
abbrev pub stop_of : Held → ℕ
stop_of h = (view h.pass).stop

-- whether it gave the exchange back halted the last time
abbrev pub halted_of : Held → Bool
halted_of h = (view h.pass).halted

-- the exchange as it was taken
abbrev pub taken_by : Held → Board
taken_by h = taken (view h.pass)

-- and as it is
abbrev pub exchange_of : Held → Board
exchange_of h = h.exchange.value

-- the same seat, whatever was done to the exchange
pub record IsSameSeat (h k : Held) : Type 0 where
  pub share : share_of k ≡ share_of h
  pub taken : taken_by k ≡ taken_by h
  pub stop : stop_of k ≡ stop_of h
  pub halted : halted_of k ≡ halted_of h
  pub table : (t : Table) → IsHeldOf t h → IsHeldOf t k
